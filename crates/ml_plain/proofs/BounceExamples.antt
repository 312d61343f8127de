-- Worked examples: the course of bounces.
use Rattle.std.proofs.Common.{◌≡◌, ℕ, true, List, [], ◌∷◌, ◌++◌, Some, refl, codes}
use Rattle.std.specs.Fmt.{digits}
use Rattle.std.specs.Option.{option_map}
use Rattle.sha2.specs.Sha256.{sha256, hash_after, digest_bytes, compress, rounds, schedule, first_words}
use Rattle.ml_base.specs.declared.names.Set.TheVariants as sets
use Rattle.ml_address.specs.Cookies.{cookie}
use Rattle.ml_address.specs.Reading.{request_of}
use Rattle.ml_address.specs.Writing.{request_text}
use Rattle.ml_reply.specs.Dates.{date_text, civil_of}
use Rattle.ml_reply.specs.Mails.{mail_text}
use Rattle.ml_queue.specs.Queue.{entry}
use Rattle.ml_plain.specs.declared.Item.{Item}
use Rattle.ml_plain.specs.declared.Act.TheVariants.{Remove}
use Rattle.ml_plain.specs.Plain.{addresses}
use Rattle.ml_plain.specs.Posting.{sent_text}
use Rattle.ml_plain.specs.Steps.{step0}
use Rattle.ml_plain.specs.Histories.{State, step, fold, text}
use Rattle.ml_plain.specs.Verdicts.{verdict}
use Rattle.ml_plain.proofs.ExampleItems.{usual, a_list, m, to_list, item, add, deliver, bounce, timed}

-- a member, and a post to him
abbrev member : State
member = fold (a_list usual) (add (codes "a@b") ∷ deliver 0 1000000100 (codes "a@b") to_list m ∷ [])

abbrev first_bounce : Item
first_bounce = bounce 1000010000 (codes "list-return-1-a=b@ex.org")

abbrev warning_bounce : Item
warning_bounce = bounce 1001020000 (codes "list-return-warn-1001010000.pnmnlkjjdpfdgdkbdlph-a=b@ex.org")

abbrev probe_bounce : ℕ → Item
probe_bounce moment = bounce moment (codes "list-return-probe-1002020000.jflpmhknppbmgpelkpgm-a=b@ex.org")

-- up to the probe
abbrev course : List Item
course = first_bounce ∷ timed 1001009999 ∷ timed 1001010000 ∷ warning_bounce ∷ timed 1002019999 ∷ timed 1002020000 ∷ []

dropped : text member (course ++ probe_bounce 1002020500 ∷ probe_bounce 1002020500 ∷ [])
    ≡ codes "0 0 bounce\n0 0 timed 0\n0 0 timed 1\n0 0 bounce\n0 0 timed 0\n0 0 timed 1\n0 0 dropped\n0 0 ignored\n"
unfolding step step0 request_of request_text verdict sent_text mail_text date_text civil_of cookie sha256 hash_after digest_bytes compress rounds schedule first_words digits
dropped = refl

no_member_left : addresses (fold member (course ++ probe_bounce 1002020500 ∷ [])).plain sets.List ≡ []
unfolding step step0 request_of request_text verdict sent_text mail_text date_text civil_of cookie sha256 hash_after digest_bytes compress rounds schedule first_words digits
no_member_left = refl

warning_path : option_map (λ out. out.path) (entry 2 (fold member (first_bounce ∷ timed 1001010000 ∷ [])).plain.queue)
    ≡ Some (record { base = codes "list-return-warn-1001010000.pnmnlkjjdpfdgdkbdlph-"; host = codes "ex.org"; each = true })
unfolding step step0 request_of request_text verdict sent_text mail_text date_text civil_of cookie sha256 hash_after digest_bytes compress rounds schedule first_words digits
warning_path = refl

-- the probe didn't bounce for long: the entry goes, and the probe's bounce drops nobody any more
lapsed : text member (course ++ timed 1003020000 ∷ probe_bounce 1003020000 ∷ []) ≡ text member course ++ codes "0 0 timed 0\n0 0 ignored\n"
unfolding step step0 request_of request_text verdict sent_text mail_text date_text civil_of cookie sha256 hash_after digest_bytes compress rounds schedule first_words digits
lapsed = refl

no_entry_left : (fold member (course ++ timed 1003020000 ∷ [])).plain.list_ledger ≡ []
unfolding step step0 request_of request_text verdict sent_text mail_text date_text civil_of cookie sha256 hash_after digest_bytes compress rounds schedule first_words digits
no_entry_left = refl

-- whoever leaves and comes back begins anew
begins_anew : text member (first_bounce ∷ item 70 1000020000 (Remove sets.List (codes "a@b")) ∷ add (codes "a@b") ∷ timed 1001010000 ∷ [])
    ≡ codes "0 0 bounce\n70 0 unsubscribed\n0 0 subscribed\n0 0 timed 0\n"
unfolding step step0 request_of request_text verdict sent_text mail_text date_text civil_of cookie sha256 hash_after digest_bytes compress rounds schedule first_words digits
begins_anew = refl

-- no post has the number, the address is no member, or the same number bounced before
ignored : text member (bounce 0 (codes "list-return-2-a=b@ex.org") ∷ bounce 0 (codes "list-return-1-x=y@ex.org") ∷ bounce 0 (codes "list-digest-return-1-a=b@ex.org")
    ∷ bounce 0 (codes "list-return-@ex.org") ∷ bounce 0 (codes "list-return-1-A=B@ex.org") ∷ bounce 0 (codes "list-return-1-a=b@ex.org") ∷ bounce 0 (codes "list-return-0-a=b@ex.org") ∷ [])
    ≡ codes "0 0 ignored\n0 0 ignored\n0 0 ignored\n0 0 ignored\n0 0 bounce\n0 0 ignored\n0 100 nosender\n"
unfolding step step0 request_of request_text verdict sent_text mail_text date_text civil_of cookie sha256 hash_after digest_bytes compress rounds schedule first_words digits
ignored = refl
