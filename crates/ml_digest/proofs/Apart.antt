-- A digest that was written is taken apart into the messages that were put into it.
use Rattle.std.proofs.Common.{◌≡◌, ◌≢◌, ◌<◌, ◌≤◌, ◌+◌, ◌-◌, ℕ, Bool, true, false, not, ◌==◌, ◌||◌, List, [], ◌∷◌, ◌++◌, length, map, refl, sym, ap, ap₂, ◌∙◌, arith, append_assoc, codes, is_ok}
use Rattle.std.specs.Fmt.{decimal}
use Rattle.std.specs.List.{AllByRecursion, flat_map, enumerate_from, list_all}
use Rattle.std.proofs.lemmas.List.{length-map}
use Rattle.std.proofs.lemmas.Bool.Decides.{nat_tests}
use Rattle.ml_base.specs.Address.{is_local_byte, is_host_byte, are_parts}
use Rattle.ml_base.specs.Bytes.{Text, is_empty}
use Rattle.ml_base.specs.Splits.{has_byte}
use Rattle.ml_base.specs.Texts.{lines_text, list_address, post_address, mailing_list_line}
use Rattle.ml_base.proofs.AddressParts.{who_parts}
use Rattle.ml_base.proofs.Bools.{both}
use Rattle.ml_rows.proofs.ValueLaws.{decimal_without}
use Rattle.ml_config.specs.Configuration.{IsConfig}
use Rattle.ml_config.specs.declared.configuration.Config.{Config}
use Rattle.ml_digest.specs.Burst.{Parts, IsLine, HaveNo, IsMessage, AreParts, message_lines, digest_lines, IsDigest}
use Rattle.ml_digest.specs.Digest.{preamble_rule, message_rule, issue_title, end_line, asterisks, topic, preamble, with_rule, message_text, digest_text, AreDigested}
use Rattle.ml_digest.specs.declared.posts.DigestPost.{DigestPost}
use Rattle.ml_digest.proofs.Laid.{message_set, lines_both, has_both}

-- if no byte that passes a test is an LF, a text of such bytes has none
none_lf : (test : ℕ → Bool) → ((b : ℕ) → test b ≡ true → (b == 10) ≡ false) → (bs : Text) → list_all test bs ≡ true → has_byte 10 bs ≡ false
none_lf test h [] e = refl
none_lf test h (b ∷ bs) e = let parts = both (test b) (list_all test bs) e in ap₂ (λ s t. s || t) (h b parts.0) (none_lf test h bs parts.1)

pub local_byte : (b : ℕ) → is_local_byte b ≡ true → (b == 10) ≡ false
local_byte b h = grind (arith, nat_tests)

pub host_byte : (b : ℕ) → is_host_byte b ≡ true → (b == 10) ≡ false
host_byte b h = grind (arith, nat_tests)

-- what is needed of a configuration: its names are lines
pub record Plain (c : Config) : Type 0 where
  pub local : IsLine c.local
  pub host : IsLine c.host
  pub some : 0 < length c.local

not_empty : (a b : Bool) → not (a || b) ≡ true → a ≡ false
not_empty true b e = let bad : false ≡ true = e in absurd (cc)
not_empty false b e = refl

filled : (t : Text) → is_empty t ≡ false → 0 < length t
filled [] e = let bad : true ≡ false = e in absurd (cc)
filled (x ∷ xs) e = omega arith

config_plain : (c : Config) → IsConfig c → Plain c
config_plain c is =
    let tests : are_parts c.local c.host ≡ true = sym (who_parts c.local c.host) ∙ ap is_ok (is.list).checks in
    let a = both _ _ tests in
    let b = both _ _ a.0 in
    let d = both _ _ b.0 in
    record {
      local = none_lf is_local_byte local_byte c.local b.1;
      host = none_lf is_host_byte host_byte c.host a.1;
      some = filled c.local (not_empty (is_empty c.local) (is_empty c.host) d.1);
    }

module _ (c : Config) (issue first : ℕ) (posts : List DigestPost) (date : Text) (is : IsConfig c) (can : AreDigested issue first posts) (day : has_byte 10 date ≡ false) where
  abbrev topics : List Text
  topics = map topic (enumerate_from first posts)

  abbrev title_line : Text
  title_line = issue_title c.local issue ++ codes ", posts " ++ decimal first ++ codes " to " ++ decimal (first + length posts - 1)

  abbrev parts : Parts
  parts = record {
    head = mailing_list_line c.local c.host ∷ codes "Precedence: bulk" ∷ (codes "From: " ++ list_address c.local c.host (codes "help")) ∷ (codes "To: " ++ post_address c.local c.host) ∷ (codes "Date: " ++ date) ∷ [];
    name = c.local;
    issue = issue;
    preface = title_line ∷ [] ∷ codes "Topics:" ∷ topics ++ [] ∷ [];
    messages = map (λ (p : DigestPost). (message_set p.bytes).rows) posts;
  }

  number_line_lf : (n : ℕ) → n ≤ 100_000_000 → has_byte 10 (decimal n) ≡ false
  number_line_lf n le = decimal_without 10 n refl (omega (arith, le))

  list_line : (rest : Text) → IsLine rest → IsLine (list_address c.local c.host rest)
  list_line rest line =
      let p = config_plain c is in
      has_both 10 (c.local ++ 45 ∷ rest) (64 ∷ c.host) (has_both 10 c.local (45 ∷ rest) p.local line) p.host

  head_lines : AllByRecursion (λ line. IsLine line × (0 < length line)) parts.head
  head_lines =
      let p = config_plain c is in
      let help = list_line (codes "help") refl in (
        (has_both 10 (codes "Mailing-List: contact " ++ list_address c.local c.host (codes "help")) (codes "; run by ezmlm") (has_both 10 (codes "Mailing-List: contact ") (list_address c.local c.host (codes "help")) refl help) refl, omega arith),
        (
          (refl, omega arith),
          (
            (has_both 10 (codes "From: ") (list_address c.local c.host (codes "help")) refl help, omega arith),
            (
              (has_both 10 (codes "To: ") (post_address c.local c.host) refl (has_both 10 c.local (64 ∷ c.host) p.local p.host), omega arith),
              (
                (has_both 10 (codes "Date: ") date refl day, omega arith),
                tt,
              ),
            ),
          ),
        ),
      )

  title_is : IsLine title_line
  title_is =
      let p = config_plain c is in
      let i = can.issue_fits in
      let f = can.fit in
      let title : IsLine (issue_title c.local issue) = has_both 10 (c.local ++ codes " Digest Issue ") (decimal issue) (has_both 10 c.local (codes " Digest Issue ") p.local refl) (number_line_lf issue (omega (arith, i))) in
      has_both 10 (((issue_title c.local issue ++ codes ", posts ") ++ decimal first) ++ codes " to ") (decimal (first + length posts - 1))
      (has_both 10 ((issue_title c.local issue ++ codes ", posts ") ++ decimal first) (codes " to ")
      (has_both 10 (issue_title c.local issue ++ codes ", posts ") (decimal first) (has_both 10 (issue_title c.local issue) (codes ", posts ") title refl) (number_line_lf first (omega (arith, f)))) refl)
      (number_line_lf (first + length posts - 1) (omega (arith, f)))

  -- a line that has a byte other than a hyphen isn't the rule after the preface
  other_than : (byte : ℕ) (line : Text) → has_byte byte preamble_rule ≡ false → has_byte byte line ≡ true → line ≢ preamble_rule
  other_than byte line none some same = let bad : true ≡ false = sym some ∙ ap (has_byte byte) same ∙ none in cc

  has_right : (byte : ℕ) (a b : Text) → has_byte byte b ≡ true → has_byte byte (a ++ b) ≡ true
  has_right byte [] b e = e
  has_right byte (x ∷ xs) b e = ap (λ t. (x == byte) || t) (has_right byte xs b e) ∙ or_true (x == byte)
    where
      or_true : (t : Bool) → (t || true) ≡ true
      or_true true = refl
      or_true false = refl

  has_left : (byte : ℕ) (a b : Text) → has_byte byte a ≡ true → has_byte byte (a ++ b) ≡ true
  has_left byte [] b e = let bad : false ≡ true = e in absurd (cc)
  has_left byte (x ∷ xs) b e = go (x == byte) refl (λ more. has_left byte xs b more)
    where
      go : (t : Bool) → (x == byte) ≡ t → (has_byte byte xs ≡ true → has_byte byte (xs ++ b) ≡ true) → ((x == byte) || has_byte byte (xs ++ b)) ≡ true
      go true here later = ap (λ t. t || has_byte byte (xs ++ b)) here
      go false away later = ap (λ t. t || has_byte byte (xs ++ b)) away ∙ later (sym (ap (λ t. t || has_byte byte xs) away) ∙ e)

  title_other : title_line ≢ preamble_rule
  title_other =
      other_than 32 title_line refl
      (has_left 32 (((issue_title c.local issue ++ codes ", posts ") ++ decimal first) ++ codes " to ") (decimal (first + length posts - 1))
      (has_right 32 ((issue_title c.local issue ++ codes ", posts ") ++ decimal first) (codes " to ") refl))

  topic_is : (n : ℕ) (p : DigestPost) → n ≤ 100_000_000 → has_byte 10 p.subject ≡ false → IsLine (topic (n, p)) × (topic (n, p) ≢ preamble_rule)
  topic_is n p le line = (
    has_both 10 (decimal n ++ codes ": ") p.subject (has_both 10 (decimal n) (codes ": ") (number_line_lf n le) refl) line,
    other_than 58 (topic (n, p)) refl (has_left 58 (decimal n ++ codes ": ") p.subject (has_right 58 (decimal n) (codes ": ") refl)),
  )

  topics_are : (n : ℕ) (ps : List DigestPost) → n + length ps ≤ 100_000_000 → AllByRecursion (λ p. has_byte 10 p.subject ≡ false) ps
      → AllByRecursion IsLine (map topic (enumerate_from n ps) ++ [] ∷ []) × HaveNo preamble_rule (map topic (enumerate_from n ps) ++ [] ∷ [])
  topics_are n [] le all = ((refl, tt), (λ same. let bad = ap length same in omega (arith, bad), tt))
  topics_are n (p ∷ ps) le all =
      let one = topic_is n p (omega (arith, le)) all.0 in
      let more = topics_are (n + 1) ps (omega (arith, le)) all.1 in
      ((one.0, more.0), (one.1, more.1))

  messages_are : (ps : List DigestPost) → AllByRecursion IsMessage (map (λ (p : DigestPost). (message_set p.bytes).rows) ps)
  messages_are [] = tt
  messages_are (p ∷ ps) = ((message_set p.bytes).is, messages_are ps)

  are : AreParts parts
  are =
      let p = config_plain c is in
      let i = can.issue_fits in
      let some = can.some in
      let lines = topics_are first posts can.fit can.subjects in
      record {
        head = head_lines;
        name = p.local;
        named = p.some;
        issue = can.issue_from_one;
        readable = omega (arith, i);
        preface = (title_is, (refl, (refl, lines.0)));
        rule = (title_other, (λ same. let bad = ap length same in omega (arith, bad), (other_than 58 (codes "Topics:") refl refl, lines.1)));
        some = omega (arith, some, length-map posts (λ (p : DigestPost). (message_set p.bytes).rows));
        messages = messages_are posts;
      }

  messages_text : (ps : List DigestPost) → map (λ (p : DigestPost). message_text p.bytes) ps ≡ map lines_text (map (λ (p : DigestPost). (message_set p.bytes).rows) ps)
  messages_text [] = refl
  messages_text (p ∷ ps) = ap₂ (λ (t : Text) (ts : List Text). t ∷ ts) (message_set p.bytes).whole (messages_text ps)

  abbrev after : List Text
  after = [] ∷ message_rule ∷ [] ∷ []

  rules_text : (ps : List DigestPost) → lines_text (flat_map message_lines (map (λ (p : DigestPost). (message_set p.bytes).rows) ps)) ≡ flat_map with_rule ps
  rules_text [] = refl
  rules_text (p ∷ ps) =
      lines_both (message_lines (message_set p.bytes).rows) (flat_map message_lines (map (λ (p : DigestPost). (message_set p.bytes).rows) ps))
      ∙ ap₂ (λ (a b : Text). a ++ b) (lines_both (message_set p.bytes).rows after ∙ ap (λ t. t ++ lines_text after) (sym (message_set p.bytes).whole)) (rules_text ps)

  abbrev last_lines : List Text
  last_lines = end_line c.local issue ∷ asterisks c.local issue ∷ []

  abbrev all_messages : List Text
  all_messages = flat_map message_lines (map (λ (p : DigestPost). (message_set p.bytes).rows) posts)

  whole_lines : digest_lines parts ≡ preamble c issue first posts date ++ (all_messages ++ last_lines)
  whole_lines =
      ap (λ t. parts.head ++ (codes "Subject: " ++ issue_title c.local issue) ∷ [] ∷ title_line ∷ [] ∷ codes "Topics:" ∷ t)
      (ap (λ t. t ++ last_lines) (append_assoc topics ([] ∷ []) (preamble_rule ∷ [] ∷ all_messages))
      ∙ append_assoc topics ([] ∷ preamble_rule ∷ [] ∷ all_messages) last_lines ∙ sym (append_assoc topics ([] ∷ preamble_rule ∷ [] ∷ []) (all_messages ++ last_lines)))

  spelled : digest_text c issue first posts date ≡ lines_text (digest_lines parts)
  unfolding digest_text
  spelled =
      append_assoc (lines_text (preamble c issue first posts date)) (flat_map with_rule posts) (lines_text last_lines)
      ∙ ap (λ t. lines_text (preamble c issue first posts date) ++ t) (ap (λ t. t ++ lines_text last_lines) (sym (rules_text posts)) ∙ sym (lines_both all_messages last_lines))
      ∙ sym (lines_both (preamble c issue first posts date) (all_messages ++ last_lines)) ∙ sym (ap lines_text whole_lines)

  pub taken_apart : IsDigest (digest_text c issue first posts date) issue (map (λ p. message_text p.bytes) posts)
  taken_apart = record { parts = parts; are = are; spelled = spelled; number = refl; each = messages_text posts }
