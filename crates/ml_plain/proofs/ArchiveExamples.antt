-- Worked examples: digests, and what is answered from the archive.
use Rattle.std.proofs.Common.{◌≡◌, true, [], ◌∷◌, ◌++◌, Option, Some, refl, codes, length, replicate}
use Rattle.std.specs.Fmt.{digits}
use Rattle.std.specs.Option.{option_map}
use Rattle.ml_base.specs.Bytes.{Text}
use Rattle.ml_base.specs.declared.names.Set.TheVariants as sets
use Rattle.ml_address.specs.Reading.{request_of}
use Rattle.ml_address.specs.Writing.{request_text}
use Rattle.ml_filing.specs.Subjects.{stripped}
use Rattle.ml_digest.specs.Digest.{digest_text}
use Rattle.ml_reply.specs.Dates.{date_text, civil_of}
use Rattle.ml_reply.specs.Mails.{mail_text}
use Rattle.ml_queue.specs.Queue.{entry}
use Rattle.ml_plain.specs.Posting.{sent_text}
use Rattle.ml_plain.specs.Steps.{step0}
use Rattle.ml_plain.specs.Histories.{State, step, fold, text}
use Rattle.ml_plain.specs.Verdicts.{verdict}
use Rattle.ml_plain.proofs.ExampleItems.{usual, config, a_list, about, m, to_list, add_to, deliver, ask, bounce, timed}

-- a digest of two posts once the first is old enough
abbrev digested : State
digested = fold (a_list (record usual { d = true })) (add_to sets.Digest (codes "c@d") ∷ deliver 0 1000000001 (codes "g@h") to_list m ∷ deliver 0 1000000002 (codes "g@h") to_list m ∷ [])

digests : text digested (timed 1000172800 ∷ timed 1000172801 ∷ timed 1000172801 ∷ bounce 1000172801 (codes "list-digest-return-1-c=d@ex.org") ∷ [])
    ≡ codes "0 0 timed 0\n0 0 timed 1\n0 0 timed 0\n0 0 bounce\n"
unfolding digest_text step step0 request_of request_text verdict sent_text mail_text date_text civil_of digits
digests = refl

digest_path : option_map (λ out. out.path) (entry 3 (fold digested (timed 1000172801 ∷ [])).plain.queue)
    ≡ Some (record { base = codes "list-digest-return-1-"; host = codes "ex.org"; each = true })
unfolding digest_text step step0 request_of request_text verdict sent_text mail_text date_text civil_of digits
digest_path = refl

mark_moved : (fold digested (timed 1000172801 ∷ [])).plain.mark ≡ record { last = 2; issue = 1 }
unfolding digest_text step step0 request_of request_text verdict sent_text mail_text date_text civil_of digits
mark_moved = refl

-- 101 short posts: an issue has 100 of them, and the next one the last, once it is old enough
abbrev many : State
many = record (a_list (record usual { d = true })) {
  plain = record ((a_list (record usual { d = true })).plain) {
    posts = replicate 101 (record { sender = codes "g@h"; moment = 1000000101; subject = codes "x"; bytes = codes "Subject: x\n\n" });
  };
}

two_issues : text many (timed 1000000200 ∷ timed 1000000200 ∷ timed 1000172900 ∷ timed 1000172901 ∷ timed 1000172901 ∷ [])
    ≡ codes "0 0 timed 1\n0 0 timed 0\n0 0 timed 0\n0 0 timed 1\n0 0 timed 0\n"
unfolding digest_text step step0 request_of request_text verdict sent_text mail_text date_text civil_of digits
two_issues = refl

first_mark : (fold many (timed 1000000200 ∷ [])).plain.mark ≡ record { last = 100; issue = 1 }
unfolding digest_text step step0 request_of request_text verdict sent_text mail_text date_text civil_of digits
first_mark = refl

second_mark : (fold many (timed 1000000200 ∷ timed 1000172901 ∷ [])).plain.mark ≡ record { last = 101; issue = 2 }
unfolding digest_text step step0 request_of request_text verdict sent_text mail_text date_text civil_of digits
second_mark = refl

-- the archive
abbrev with_subjects : State
with_subjects = fold (a_list usual) (deliver 0 1000000000 (codes "g@h") to_list (about (codes "hello")) ∷ deliver 0 1000000000 (codes "g@h") to_list (about (codes "Re: Hello")) ∷ deliver 0 1000000000 (codes "g@h") to_list (about (codes "other")) ∷ [])

abbrev answer_of : Text → Option Text
answer_of recipient = option_map (λ out. out.body) (entry 4 (fold with_subjects (ask 60 1000000000 recipient ∷ [])).plain.queue)

abbrev archive_head : Text
archive_head = codes "Mailing-List: contact list-help@ex.org; run by ezmlm\nPrecedence: bulk\nFrom: list-help@ex.org\nTo: g@h\nDate: Sun, 09 Sep 2001 01:46:40 -0000\nSubject: archive of list@ex.org\n\n"

index : answer_of (codes "list-index.1@ex.org") ≡ Some (archive_head ++ codes "1: Sun, 09 Sep 2001 01:46:40 -0000; g@h\n\thello\n2: Sun, 09 Sep 2001 01:46:40 -0000; g@h\n\tRe: Hello\n3: Sun, 09 Sep 2001 01:46:40 -0000; g@h\n\tother\n")
unfolding stripped step step0 request_of request_text verdict sent_text mail_text date_text civil_of digits
index = refl

no_posts : answer_of (codes "list-get.5_2@ex.org") ≡ Some (archive_head ++ codes "No such posts.\n")
unfolding stripped step step0 request_of request_text verdict sent_text mail_text date_text civil_of digits
no_posts = refl

thread : option_map length (answer_of (codes "list-thread.2@ex.org")) ≡ option_map length (answer_of (codes "list-get.1_2@ex.org"))
unfolding stripped step step0 request_of request_text verdict sent_text mail_text date_text civil_of digits
thread = refl

get_both : answer_of (codes "list-get.3@ex.org") ≡ Some (archive_head ++ codes "--- post 3 of list@ex.org ---\n" ++ sent_text (config usual) (about (codes "other")) ++ codes "\n")
unfolding stripped step step0 request_of request_text verdict sent_text mail_text date_text civil_of digits
get_both = refl

-- the archive is for members alone
abbrev guarded : State
guarded = a_list (record usual { g = true })

private : text guarded (ask 1 0 (codes "list-index.1@ex.org") ∷ add_to sets.Digest (codes "g@h") ∷ ask 2 0 (codes "list-index.1@ex.org") ∷ []) ≡ codes "1 100 private\n0 0 subscribed\n2 0 archive\n"
unfolding stripped step step0 request_of request_text verdict sent_text mail_text date_text civil_of digits
private = refl
