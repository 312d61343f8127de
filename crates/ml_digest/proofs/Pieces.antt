-- Joining the pieces of a digest gives the same text, however they are grouped.
use Rattle.std.proofs.Common.{◌≡◌, ◌<◌, ◌+◌, ℕ, zero, suc, true, cond, List, [], ◌∷◌, ◌++◌, length, take, get_or, map, filter, replicate, codes, refl, sym, ap, ap₂, ◌∙◌, arith, append_assoc, append-nil, length-append}
use Rattle.std.specs.List.{flat_map, enumerate_from}
use Rattle.ml_base.specs.Bytes.{Text}
use Rattle.ml_base.specs.Texts.{lf, lines_text, with_line_end, with_last_line_end, list_address, post_address, mailing_list_line}
use Rattle.ml_config.specs.declared.configuration.Config.{Config}
use Rattle.ml_header.specs.Fields.{FieldText, has_name}
use Rattle.ml_header.specs.Steps.{IsWhole}
use Rattle.ml_header.proofs.Rewrites.{line_end_after}
use Rattle.ml_digest.specs.Digest.{issue_title, end_line, asterisks, topic, with_rule, digest_text, preamble_rule}
use Rattle.ml_digest.specs.Steps.{first_text, header_text, topics_text, title_line, preface_text, named_text}
use Rattle.ml_digest.specs.declared.posts.DigestPost.{DigestPost}
use Rattle.ml_digest.proofs.Laid.{lines_both}

pub first_pieces : (o m p f t : Text) → o ++ (m ++ lf) ++ (p ++ lf) ++ (f ++ lf) ++ (t ++ lf) ≡ o ++ (m ++ lf ++ (p ++ lf ++ (f ++ lf ++ (t ++ lf ++ []))))
first_pieces o m p f t = simp append_assoc refl

pub header_pieces : (o f d s t : Text) → o ++ f ++ (d ++ lf) ++ s ++ t ++ (lf ++ lf) ≡ o ++ (f ++ (d ++ lf ++ (s ++ t ++ lf ++ (lf ++ []))))
header_pieces o f d s t = simp append_assoc refl

pub preface_pieces : (o t a d b l k p r : Text) → o ++ t ++ a ++ d ++ b ++ l ++ (lf ++ lf ++ k ++ lf) ++ p ++ (lf ++ r ++ lf ++ lf)
    ≡ o ++ (t ++ a ++ d ++ b ++ l ++ lf ++ (lf ++ (k ++ lf ++ [])) ++ p ++ (lf ++ (r ++ lf ++ (lf ++ []))))
preface_pieces o t a d b l k p r = simp append_assoc refl

joined_end : (o e t a : Text) → o ++ e ++ t ++ lf ++ a ++ lf ≡ o ++ (e ++ t ++ lf ++ (a ++ lf ++ []))
joined_end o e t a = simp append_assoc refl

pub end_pieces : (o e t : Text) (count : ℕ) → count ≡ length (e ++ t) → o ++ e ++ t ++ lf ++ replicate count 42 ++ lf ≡ o ++ (e ++ t ++ lf ++ (replicate (length (e ++ t)) 42 ++ lf ++ []))
end_pieces o e t count same = ap (λ n. o ++ e ++ t ++ lf ++ replicate n 42 ++ lf) same ∙ joined_end o e t (replicate (length (e ++ t)) 42)

pub whole_pieces : (m p f t d s z k q r : Text) → m ++ lf ++ (p ++ lf ++ (f ++ lf ++ (t ++ lf ++ (d ++ lf ++ (s ++ lf ++ (lf ++ (z ++ lf ++ (lf ++ (k ++ lf ++ (q ++ r))))))))))
    ≡ (m ++ lf ++ (p ++ lf ++ (f ++ lf ++ (t ++ lf ++ []))) ++ (d ++ lf ++ (s ++ lf ++ (lf ++ [])))) ++ (z ++ lf ++ (lf ++ (k ++ lf ++ [])) ++ q ++ r)
whole_pieces m p f t d s z k q r = simp append_assoc refl

-- one more topic
pub topics_more : (n : ℕ) (ps : List DigestPost) (i : ℕ) (p : DigestPost) → i < length ps → p ≡ get_or ps i p → topics_text n (take (suc i) ps) ≡ topics_text n (take i ps) ++ (topic (n + i, p) ++ lf)
topics_more n [] i p less e = absurd (omega (arith, less))
topics_more n (q ∷ qs) zero p less e =
    let same : n ≡ n + 0 = omega arith in
    append-nil (topic (n, q) ++ lf) ∙ ap₂ (λ (k : ℕ) (r : DigestPost). topic (k, r) ++ lf) same (sym e)
topics_more n (q ∷ qs) (suc i) p less e =
    let same : (n + 1) + i ≡ n + suc i = omega arith in
    ap (λ t. (topic (n, q) ++ lf) ++ t) (topics_more (n + 1) qs i p (omega (arith, less)) e ∙ ap (λ k. topics_text (n + 1) (take i qs) ++ (topic (k, p) ++ lf)) same)
    ∙ sym (append_assoc (topic (n, q) ++ lf) (topics_text (n + 1) (take i qs)) (topic (n + suc i, p) ++ lf))

pub topic_pieces : (o t d a s : Text) → o ++ t ++ d ++ a ++ s ++ lf ≡ o ++ (t ++ (d ++ a ++ s ++ lf))
topic_pieces o t d a s = simp append_assoc refl

-- one more field
pub named_turn : (name out new start : Text) (f : FieldText) (fs all : List FieldText) → all ≡ f ∷ fs → IsWhole f → has_name name f ≡ true → new ≡ with_line_end (out ++ f.lines)
    → out ++ named_text name all ≡ start → new ++ named_text name fs ≡ start
named_turn name out new start f fs all is whole named text old =
    ap (λ t. t ++ named_text name fs) (text ∙ line_end_after out f.lines (some_field f whole)) ∙ append_assoc out (with_line_end f.lines) (named_text name fs)
    ∙ ap (λ t. out ++ t) (sym (ap (λ b. flat_map (λ (f : FieldText). with_line_end f.lines) (cond b (f ∷ filter (has_name name) fs) (filter (has_name name) fs))) named))
    ∙ sym (ap (λ fs. out ++ named_text name fs) is) ∙ old
  where
    some_field : (f : FieldText) → IsWhole f → 0 < length f.lines
    some_field f e = omega (arith, ap length e, length-append f.name (58 ∷ f.value))

-- the end of a message
pub message_ends : (o k b : Text) → with_line_end (o ++ k ++ lf ++ b) ≡ o ++ (k ++ lf ++ with_last_line_end b)
message_ends o k [] = ap with_line_end (append-nil (o ++ k ++ lf)) ∙ line_end_after (o ++ k) lf (omega arith) ∙ append_assoc o k lf ∙ ap (λ t. o ++ t) (sym (append-nil (k ++ lf)))
message_ends o k (x ∷ xs) =
    line_end_after (o ++ k ++ lf) (x ∷ xs) (omega arith) ∙ ap (λ t. t ++ with_line_end (x ∷ xs)) (append_assoc o k lf) ∙ append_assoc o (k ++ lf) (with_line_end (x ∷ xs))

-- all pieces of a digest
pub digest_pieces : (c : Config) (issue first : ℕ) (posts : List DigestPost) (date : Text)
    → digest_text c issue first posts date
    ≡ header_text c issue date ++ preface_text c.local issue first posts ++ flat_map with_rule posts ++ lines_text (end_line c.local issue ∷ asterisks c.local issue ∷ [])
unfolding digest_text header_text first_text preface_text
digest_pieces c issue first posts date =
    ap (λ t. t ++ flat_map with_rule posts ++ lines_text (end_line c.local issue ∷ asterisks c.local issue ∷ []))
    (ap (λ t. mailing_list_line c.local c.host ++ lf ++ (codes "Precedence: bulk" ++ lf ++ (codes "From: " ++ list_address c.local c.host (codes "help") ++ lf ++ (codes "To: " ++ post_address c.local c.host ++ lf ++ (codes "Date: " ++ date ++ lf ++ (codes "Subject: " ++ issue_title c.local issue ++ lf ++ (lf ++ (title_line c.local issue first posts ++ lf ++ (lf ++ (codes "Topics:" ++ lf ++ t)))))))))) (lines_both (map topic (enumerate_from first posts)) ([] ∷ preamble_rule ∷ [] ∷ []))
    ∙ whole_pieces (mailing_list_line c.local c.host) (codes "Precedence: bulk") (codes "From: " ++ list_address c.local c.host (codes "help")) (codes "To: " ++ post_address c.local c.host) (codes "Date: " ++ date)
    (codes "Subject: " ++ issue_title c.local issue) (title_line c.local issue first posts) (codes "Topics:") (topics_text first posts) (lines_text ([] ∷ preamble_rule ∷ [] ∷ [])))
