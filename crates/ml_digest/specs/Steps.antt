-- The pieces of a digest, in the order in which it is written.
use Rattle.std.specs.Prelude.{ℕ, ◌+◌, ◌-◌, List, [], ◌∷◌, ◌++◌, length, map, codes, filter}
use Rattle.std.specs.Fmt.{decimal}
use Rattle.std.specs.List.{flat_map, enumerate_from}
use Rattle.ml_base.specs.Bytes.{Text}
use Rattle.ml_base.specs.Texts.{lines_text, with_line_end, list_address, post_address, mailing_list_line}
use Rattle.ml_config.specs.declared.configuration.Config.{Config}
use Rattle.ml_header.specs.Fields.{FieldText, has_name}
use Rattle.ml_digest.specs.Digest.{issue_title, topic, preamble_rule}
use Rattle.ml_digest.specs.declared.posts.DigestPost.{DigestPost}

-- the header lines up to the date
unfoldable pub first_text : Config → Text
first_text c =
    lines_text (mailing_list_line c.local c.host ∷ codes "Precedence: bulk" ∷ (codes "From: " ++ list_address c.local c.host (codes "help")) ∷ (codes "To: " ++ post_address c.local c.host) ∷ [])

-- the header and the empty line after it
unfoldable pub header_text : Config → ℕ → Text → Text
header_text c issue date = first_text c ++ lines_text ((codes "Date: " ++ date) ∷ (codes "Subject: " ++ issue_title c.local issue) ∷ [] ∷ [])

-- the topics of posts from a number on
abbrev pub topics_text : ℕ → List DigestPost → Text
topics_text first posts = lines_text (map topic (enumerate_from first posts))

-- the line above the topics
abbrev pub title_line : Text → ℕ → ℕ → List DigestPost → Text
title_line name issue first posts =
    issue_title name issue ++ codes ", posts " ++ decimal first ++ codes " to " ++ decimal (first + length posts - 1)

-- the preface, the rule after it and an empty line
unfoldable pub preface_text : Text → ℕ → ℕ → List DigestPost → Text
preface_text name issue first posts =
    lines_text (title_line name issue first posts ∷ [] ∷ codes "Topics:" ∷ []) ++ topics_text first posts ++ lines_text ([] ∷ preamble_rule ∷ [] ∷ [])

-- the fields with a name, each with an LF at its end
abbrev pub named_text : Text → List FieldText → Text
named_text name fs = flat_map (λ f. with_line_end f.lines) (filter (has_name name) fs)
