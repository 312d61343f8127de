-- The verdict on a post, on every directory that has the files that tell it.
use Rattle.std.proofs.Common.{◌≡◌, ◌<◌, ℕ, Bool, true, false, ◌&&◌, ◌||◌, [], ◌∷◌, length, inl, inr, Option, Some, None, refl, sym, ap, ap₂, ◌∙◌, subst, arith}
use Rattle.std.specs.Prelude.{not}
use Rattle.std.proofs.lemmas.Bool.{and_from, le-leb, lt-leb, or_left, or_right}
use Rattle.ml_base.specs.Address.{key}
use Rattle.ml_base.specs.Bytes.{Text, is_empty, lower}
use Rattle.ml_base.specs.Dir.{Dir, same_name}
use Rattle.ml_base.specs.declared.names.Name.{Name}
use Rattle.ml_base.specs.declared.names.Set.{Set}
use Rattle.ml_base.specs.declared.names.Set.TheVariants as sets
use Rattle.ml_filing.specs.Archive.{IsNumberFile, number_name}
use Rattle.ml_filing.specs.Subjects.{subject}
use Rattle.ml_filing.proofs.Looking.{counted_is}
use Rattle.ml_config.specs.declared.configuration.Config.{Config}
use Rattle.ml_subs.specs.Buckets.{bucket_of}
use Rattle.ml_subs.specs.Subscribers.{bucket_name}
use Rattle.ml_plain.specs.Directory.{IsList}
use Rattle.ml_plain.specs.Plain.{Plain, first_row, is_archive_full, is_in}
use Rattle.ml_plain.specs.Verdicts.{Verdict, CommandSubject, Denied, Full, Held, NoSubject, NotAddressed, Posted, UsersOnly, is_addressed, is_command, is_user}
use Rattle.ml_acts.specs.Doing.{Alike, is_bucket_of}
use Rattle.ml_acts.specs.Found.{EitherTells, TellsMember}
use Rattle.ml_acts.proofs.Apart.{member_apart}
use Rattle.ml_acts.proofs.Damages.{same_self}
use Rattle.ml_post.specs.Found.{FoundOfRoom, TellsDenied, TellsRefusal, TellsStranger, TellsText, TellsUser}
use Rattle.ml_post.specs.Judging.{is_judged_by, is_of_user, of_room, of_sender, of_text, of_user, row_of}
use Rattle.ml_post.proofs.Rows.{no_row, row_first, row_second, row_third}
use Rattle.ml_post.specs.declared.verdicts.Verdict.{Verdict as Found}
use Rattle.ml_post.specs.declared.verdicts.Verdict.TheVariants as found

-- whether one of two things holds, if each of them was told rightly
either_is : (One Other : Bool → Type 0) (a b : Bool) → ((t : Bool) → One t → t ≡ a) → ((t : Bool) → Other t → t ≡ b) → (t : Bool) → EitherTells One Other t → t ≡ (a || b)
either_is One Other a b f g true (inl one) = ap (λ (x : Bool). x || b) (f true one)
either_is One Other a b f g true (inr two) = ap₂ (λ (x y : Bool). x || y) (f false two.0) (g true two.1)
either_is One Other a b f g false two = ap₂ (λ (x y : Bool). x || y) (f false two.0) (g false two.1)

either_of_four : (a b c d : Bool) → ((a || b) || (c || d)) ≡ (((a || b) || c) || d)
either_of_four true b c d = refl
either_of_four false true c d = refl
either_of_four false false c d = refl

-- whether the archive is full, by the number of posts
full_apart : (old dir : Dir) (p : Plain) → dir number_name ≡ old number_name → IsList dir p → (n : ℕ) → IsNumberFile (old number_name) n → n ≡ length p.posts
full_apart old dir p same is n file = counted_is dir p.posts (is.archive).filed n (subst (λ (f : Option Text). IsNumberFile f n) (sym same) file)

pub is_full_apart : (old dir : Dir) (p : Plain) → dir number_name ≡ old number_name → IsList dir p → IsNumberFile (old number_name) 99_999_999 → is_archive_full p ≡ true
is_full_apart old dir p same is file = let n = full_apart old dir p same is 99_999_999 file in le-leb 99_999_999 (length p.posts) (omega (arith, n))

pub has_room_apart : (old dir : Dir) (p : Plain) (n : ℕ) → dir number_name ≡ old number_name → IsList dir p → n < 99_999_999 → IsNumberFile (old number_name) n → is_archive_full p ≡ false
has_room_apart old dir p n same is less file = let e = full_apart old dir p same is n file in lt-leb 99_999_999 (length p.posts) (omega (arith, e, less))

module _ (c : Config) (who : Text) where
  abbrev denied : Name → Bool
  denied name = c.flags.k && is_bucket_of sets.Deny who name

  abbrev user : Name → Bool
  user name = c.flags.u && is_of_user who name

  abbrev counted : Name → Bool
  counted name = not c.flags.m && same_name name number_name

  denied_looked : (name : Name) → c.flags.k ≡ true → is_bucket_of sets.Deny who name ≡ true → is_judged_by c who name ≡ true
  denied_looked name has e = or_left (denied name || user name) (counted name) (or_left (denied name) (user name) (and_from c.flags.k (is_bucket_of sets.Deny who name) has e))

  user_looked : (name : Name) → c.flags.u ≡ true → is_of_user who name ≡ true → is_judged_by c who name ≡ true
  user_looked name only e = or_left (denied name || user name) (counted name) (or_right (denied name) (user name) (and_from c.flags.u (is_of_user who name) only e))

  number_looked : c.flags.m ≡ false → is_judged_by c who number_name ≡ true
  number_looked free = or_right (denied number_name || user number_name) (counted number_name) (and_from (not c.flags.m) (same_name number_name number_name) (ap not free) refl)

  -- the sender's bucket in each of the users' sets
  abbrev bucket : Set → Name
  bucket set = bucket_name set (bucket_of (key who))

  abbrev own : Set → Name → Bool
  own set name = is_bucket_of set who name

  list_user : is_of_user who (bucket sets.List) ≡ true
  list_user =
      let n = bucket sets.List in
      or_left (own sets.List n || own sets.Digest n || own sets.Allow n) (own sets.Moderators n)
      (or_left (own sets.List n || own sets.Digest n) (own sets.Allow n) (or_left (own sets.List n) (own sets.Digest n) (same_self n)))

  digest_user : is_of_user who (bucket sets.Digest) ≡ true
  digest_user =
      let n = bucket sets.Digest in
      or_left (own sets.List n || own sets.Digest n || own sets.Allow n) (own sets.Moderators n)
      (or_left (own sets.List n || own sets.Digest n) (own sets.Allow n) (or_right (own sets.List n) (own sets.Digest n) (same_self n)))

  allow_user : is_of_user who (bucket sets.Allow) ≡ true
  allow_user =
      let n = bucket sets.Allow in
      or_left (own sets.List n || own sets.Digest n || own sets.Allow n) (own sets.Moderators n) (or_right (own sets.List n || own sets.Digest n) (own sets.Allow n) (same_self n))

  moderator_user : is_of_user who (bucket sets.Moderators) ≡ true
  moderator_user = let n = bucket sets.Moderators in or_right (own sets.List n || own sets.Digest n || own sets.Allow n) (own sets.Moderators n) (same_self n)

  module _ (old dir : Dir) (p : Plain) (alike : Alike (is_judged_by c who) old dir) (is : IsList dir p) (same : p.config ≡ c) where
    -- whether the sender is in a set that is looked at
    in_set : (set : Set) (has : Bool) → is_judged_by c who (bucket set) ≡ true → TellsMember old set (key who) has → has ≡ is_in p set who
    in_set set has looked tells = member_apart old dir set (key who) has p (alike (bucket set) looked) tells is

    abbrev is_denied : Bool
    is_denied = p.config.flags.k && is_in p sets.Deny who

    denied_is : (b : Bool) → TellsDenied old c (key who) b → b ≡ is_denied
    denied_is true tells =
        ap₂ (λ (x y : Bool). x && y) (sym (ap (λ (d : Config). d.flags.k) same ∙ tells.0)) (in_set sets.Deny true (denied_looked (bucket sets.Deny) tells.0 (same_self (bucket sets.Deny))) tells.1)
    denied_is false tells = go c.flags.k refl
      where
        go : (t : Bool) → c.flags.k ≡ t → false ≡ is_denied
        go true e =
            ap₂ (λ (x y : Bool). x && y) (sym (ap (λ (d : Config). d.flags.k) same ∙ e)) (in_set sets.Deny false (denied_looked (bucket sets.Deny) e (same_self (bucket sets.Deny))) (tells e))
        go false e = ap (λ (x : Bool). x && is_in p sets.Deny who) (sym (ap (λ (d : Config). d.flags.k) same ∙ e))

    user_is : c.flags.u ≡ true → (b : Bool) → TellsUser old (key who) b → b ≡ is_user p who
    user_is only b tells =
        let k = key who in
        either_is (EitherTells (TellsMember old sets.List k) (TellsMember old sets.Digest k)) (EitherTells (TellsMember old sets.Allow k) (TellsMember old sets.Moderators k))
        (is_in p sets.List who || is_in p sets.Digest who) (is_in p sets.Allow who || is_in p sets.Moderators who)
        (either_is (TellsMember old sets.List k) (TellsMember old sets.Digest k) (is_in p sets.List who) (is_in p sets.Digest who) (λ t one. in_set sets.List t (user_looked (bucket sets.List) only list_user) one) (λ t one. in_set sets.Digest t (user_looked (bucket sets.Digest) only digest_user) one))
        (either_is (TellsMember old sets.Allow k) (TellsMember old sets.Moderators k) (is_in p sets.Allow who) (is_in p sets.Moderators who) (λ t one. in_set sets.Allow t (user_looked (bucket sets.Allow) only allow_user) one) (λ t one. in_set sets.Moderators t (user_looked (bucket sets.Moderators) only moderator_user) one))
        b tells
        ∙ either_of_four (is_in p sets.List who) (is_in p sets.Digest who) (is_in p sets.Allow who) (is_in p sets.Moderators who)

    abbrev is_stranger : Bool
    is_stranger = p.config.flags.u && not (is_user p who)

    stranger_is : (b : Bool) → TellsStranger old c (key who) b → b ≡ is_stranger
    stranger_is true tells = ap₂ (λ (x y : Bool). x && not y) (sym (ap (λ (d : Config). d.flags.u) same ∙ tells.0)) (user_is tells.0 false tells.1)
    stranger_is false tells = go c.flags.u refl
      where
        go : (t : Bool) → c.flags.u ≡ t → false ≡ is_stranger
        go true e = ap₂ (λ (x y : Bool). x && not y) (sym (ap (λ (d : Config). d.flags.u) same ∙ e)) (user_is e true (tells e))
        go false e = ap (λ (x : Bool). x && not (is_user p who)) (sym (ap (λ (d : Config). d.flags.u) same ∙ e))

    -- the last rows, by whether posts wait and whether the archive is full
    abbrev last_rows : Bool → Bool → Verdict
    last_rows waits full = first_row ((waits, Held) ∷ (full, Full) ∷ []) Posted

    room_row : (v : Found) → FoundOfRoom old c v → row_of v ≡ of_room p
    room_row found.Held waits = ap (λ (x : Bool). last_rows x (is_archive_full p)) (sym (ap (λ (d : Config). d.flags.m) same ∙ waits))
    room_row found.Full full =
        ap₂ last_rows (sym (ap (λ (d : Config). d.flags.m) same ∙ full.0)) (sym (is_full_apart old dir p (alike number_name (number_looked full.0)) is full.1))
    room_row found.Posted room =
        ap₂ last_rows (sym (ap (λ (d : Config). d.flags.m) same ∙ room.0)) (sym (has_room_apart old dir p (room.1).0 (alike number_name (number_looked room.0)) is (room.1).1 (room.1).2))
    room_row v none = absurd none

    -- the rows of the text
    abbrev text_rows : Text → Verdict → Verdict
    text_rows m rest = first_row ((is_empty (subject m), NoSubject) ∷ (is_command (lower (subject m)), CommandSubject) ∷ (not (is_addressed p.config m), NotAddressed) ∷ []) rest

    addressed_is : (m : Text) (b : Bool) → is_addressed c m ≡ b → not (is_addressed p.config m) ≡ not b
    addressed_is m b e = ap (λ (d : Config). not (is_addressed d m)) same ∙ ap not e

    text_refused : (m : Text) (v : Found) (rest : Verdict) → TellsText c m (Some v) → row_of v ≡ text_rows m rest
    text_refused m found.NoSubject rest e = sym (row_first (is_empty (subject m)) (is_command (lower (subject m))) (not (is_addressed p.config m)) NoSubject CommandSubject NotAddressed rest e)
    text_refused m found.CommandSubject rest e = sym (row_second (is_empty (subject m)) (is_command (lower (subject m))) (not (is_addressed p.config m)) NoSubject CommandSubject NotAddressed rest e.0 e.1)
    text_refused m found.NotAddressed rest e =
        sym (row_third (is_empty (subject m)) (is_command (lower (subject m))) (not (is_addressed p.config m)) NoSubject CommandSubject NotAddressed rest e.0 e.1 (addressed_is m false e.2))
    text_refused m v rest e = absurd e

    text_taken : (m : Text) (rest : Verdict) → TellsText c m None → rest ≡ text_rows m rest
    text_taken m rest e =
        sym (no_row (is_empty (subject m)) (is_command (lower (subject m))) (not (is_addressed p.config m)) NoSubject CommandSubject NotAddressed rest e.0 e.1 (addressed_is m true e.2))

    -- the row of a sender
    user_row : (b : Bool) → TellsStranger old c (key who) b → first_row ((b, UsersOnly) ∷ []) (of_room p) ≡ of_user p who
    user_row b tells = ap (λ (x : Bool). first_row ((x, UsersOnly) ∷ []) (of_room p)) (stranger_is b tells)

    sender_row : (m : Text) (b : Bool) → TellsDenied old c (key who) b → first_row ((b, Denied) ∷ []) (of_text p who m) ≡ of_sender p who m
    sender_row m b tells = ap (λ (x : Bool). first_row ((x, Denied) ∷ []) (of_text p who m)) (denied_is b tells)

    -- the row by which a post is refused whatever room there is, or that of the room
    pub refused_row : (m : Text) (v : Found) → TellsRefusal old c (key who) m (Some v) → row_of v ≡ of_sender p who m
    refused_row m found.Denied tells = sender_row m true tells
    refused_row m found.UsersOnly tells = user_row true tells.2 ∙ text_taken m (of_user p who) tells.1 ∙ sender_row m false tells.0
    refused_row m v tells = text_refused m v (of_user p who) tells.1 ∙ sender_row m false tells.0

    pub taken_row : (m : Text) (v : Found) → TellsRefusal old c (key who) m None → FoundOfRoom old c v → row_of v ≡ of_sender p who m
    taken_row m v tells room = room_row v room ∙ user_row false tells.2 ∙ text_taken m (of_user p who) tells.1 ∙ sender_row m false tells.0
