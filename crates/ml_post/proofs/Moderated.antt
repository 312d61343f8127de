-- What a moderator answers about a post that waits.
use Rattle.std.proofs.Common.{◌≡◌, ◌⊎◌, inl, inr, ◌+◌, ℕ, Bool, true, false, ◌&&◌, List, ◌++◌, length, sym, ap, ◌∙◌, subst}
use Rattle.std.proofs.lemmas.Bool.{and_from, or_left, or_right}
use Rattle.ml_base.specs.Dir.{Dir, same_name, with_puts}
use Rattle.ml_base.specs.Ranges.{is_drawn}
use Rattle.ml_base.specs.declared.names.Name.{Name}
use Rattle.ml_base.specs.declared.puts.Put.{Put}
use Rattle.ml_base.proofs.Laid.{laid_joined}
use Rattle.ml_config.specs.KeyFile.{key_name}
use Rattle.ml_hold.specs.Answers.{IsPostName, post_name, tickets_name}
use Rattle.ml_hold.specs.Held.{without_ticket}
use Rattle.ml_hold.specs.declared.posts.Held.{Held}
use Rattle.ml_plain.specs.declared.Reply.{Reply}
use Rattle.ml_plain.specs.Answers as answers
use Rattle.ml_plain.specs.Directory.{IsList}
use Rattle.ml_plain.specs.Managing.{accepted}
use Rattle.ml_plain.specs.Plain.{Plain, is_archive_full}
use Rattle.ml_plain.specs.Posting.{sent_text, with_text}
use Rattle.ml_acts.specs.Doing.{DoesList}
use Rattle.ml_acts.proofs.Damages.{same_self}
use Rattle.ml_post.specs.Answering.{is_answered_by, is_followed_by, is_taken_by}
use Rattle.ml_post.specs.Publishing.{Publishes, is_published_by}

-- a post is accepted if the archive has room
pub accepts : (dir : Dir) (p : Plain) (now ticket : ℕ) (h : Held) (n : ℕ) (taken more : List Put) (done : List Put × Reply)
    → Publishes (with_puts dir taken) now h.sender h.message (record p { held = without_ticket ticket p.held }) n more → done.0 ≡ taken ++ more → done.1 ≡ answers.posted n
    → DoesList dir done (accepted now ticket h p (is_archive_full p))
accepts dir p now ticket h n taken more done is e f =
    let after : Plain = record p { held = without_ticket ticket p.held } in
    let text = with_text now h.sender (sent_text p.config h.message) (length p.posts + 1) after in
    subst (λ (b : Bool). DoesList dir done (accepted now ticket h p b)) (sym is.0) (record {
      reply = f ∙ ap answers.posted is.1;
      list = subst (λ (d : Dir). IsList d text) (sym (ap (λ (t : List Put). with_puts dir t) e ∙ laid_joined dir taken more))
          (subst (λ (k : ℕ). IsList (with_puts (with_puts dir taken) more) (with_text now h.sender (sent_text p.config h.message) k after)) is.1 is.2);
    })

-- the files that taking out a post reads
pub taken_read : (ticket : ℕ) (name : Name) → (IsPostName ticket name ⊎ (name ≡ tickets_name)) → is_taken_by ticket name ≡ true
taken_read ticket name (inl is) =
    or_left (is_drawn ticket && same_name name (post_name ticket)) (same_name name tickets_name)
    (and_from (is_drawn ticket) (same_name name (post_name ticket)) is.0 (subst (λ (n : Name). same_name n (post_name ticket) ≡ true) (sym is.1) (same_self (post_name ticket))))
taken_read ticket name (inr e) = or_right (is_drawn ticket && same_name name (post_name ticket)) (same_name name tickets_name) (subst (λ (n : Name). same_name n tickets_name ≡ true) (sym e) (same_self tickets_name))

-- the post's own file may be read, whatever the moderator answers
pub own_read : (ticket : ℕ) (accept : Bool) (name : Name) → IsPostName ticket name → is_answered_by ticket accept name ≡ true
own_read ticket accept name is = or_right (same_name name key_name) (is_followed_by ticket accept name) (go accept)
  where
    taken : is_taken_by ticket name ≡ true
    taken = taken_read ticket name (inl is)

    go : (accept : Bool) → is_followed_by ticket accept name ≡ true
    go true = or_right (is_published_by name) (is_taken_by ticket name) taken
    go false = or_left (is_taken_by ticket name) _ taken
