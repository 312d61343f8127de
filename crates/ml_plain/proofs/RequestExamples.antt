-- Worked examples: requests, confirmations and moderated posts.
use Rattle.std.proofs.Common.{◌≡◌, ℕ, true, [], ◌∷◌, ◌++◌, Some, refl, codes, replicate}
use Rattle.std.specs.Fmt.{digits}
use Rattle.std.specs.Option.{option_map}
use Rattle.sha2.specs.Sha256.{sha256, hash_after, digest_bytes, compress, rounds, schedule, first_words}
use Rattle.ml_base.specs.Bytes.{Text}
use Rattle.ml_base.specs.declared.names.Set.TheVariants as sets
use Rattle.ml_address.specs.Cookies.{cookie}
use Rattle.ml_address.specs.Reading.{request_of}
use Rattle.ml_address.specs.Writing.{request_text}
use Rattle.ml_reply.specs.Dates.{date_text, civil_of}
use Rattle.ml_reply.specs.Mails.{mail_text}
use Rattle.ml_queue.specs.Queue.{entry}
use Rattle.ml_plain.specs.declared.Item.{Item}
use Rattle.ml_plain.specs.declared.Act.TheVariants.{Rekey}
use Rattle.ml_plain.specs.Plain.{addresses}
use Rattle.ml_plain.specs.Posting.{sent_text}
use Rattle.ml_plain.specs.Steps.{step0}
use Rattle.ml_plain.specs.Histories.{State, step, fold, text}
use Rattle.ml_plain.specs.Verdicts.{verdict}
use Rattle.ml_plain.proofs.ExampleItems.{usual, a_list, three, m, to_list, item, add, add_to, deliver, ask, timed}

-- g@h asks to subscribe
abbrev asked : State
asked = fold (a_list usual) (ask 30 1000000200 (codes "list-subscribe@ex.org") ∷ [])

asks : text (a_list usual) (ask 30 1000000200 (codes "list-subscribe@ex.org") ∷ []) ≡ codes "30 0 asked\n"
unfolding step step0 request_of request_text verdict sent_text mail_text date_text civil_of cookie sha256 hash_after digest_bytes compress rounds schedule first_words digits
asks = refl

question : option_map (λ out. out.body) (entry 1 asked.plain.queue) ≡ Some (codes "Mailing-List: contact list-help@ex.org; run by ezmlm\nPrecedence: bulk\nFrom: list-help@ex.org\nTo: g@h\nReply-To: list-sc.1000000200.gejckjgcpngcagofoonm-g=h@ex.org\nDate: Sun, 09 Sep 2001 01:50:00 -0000\nSubject: confirm subscribe\n\nTo add g@h to list of list@ex.org, write to\nlist-sc.1000000200.gejckjgcpngcagofoonm-g=h@ex.org\n")
unfolding step step0 request_of request_text verdict sent_text mail_text date_text civil_of cookie sha256 hash_after digest_bytes compress rounds schedule first_words digits
question = refl

abbrev confirmation : Text
confirmation = codes "list-sc.1000000200.gejckjgcpngcagofoonm-g=h@ex.org"

in_time : text asked (ask 31 1001000200 confirmation ∷ ask 32 1001000200 confirmation ∷ []) ≡ codes "31 0 subscribed\n32 0 already\n"
unfolding step step0 request_of request_text verdict sent_text mail_text date_text civil_of cookie sha256 hash_after digest_bytes compress rounds schedule first_words digits
in_time = refl

too_late : text asked (ask 31 1001000201 confirmation ∷ []) ≡ codes "31 100 badcookie\n"
unfolding step step0 request_of request_text verdict sent_text mail_text date_text civil_of cookie sha256 hash_after digest_bytes compress rounds schedule first_words digits
too_late = refl

clock_back : text asked (ask 31 1000000199 confirmation ∷ []) ≡ codes "31 100 badcookie\n"
unfolding step step0 request_of request_text verdict sent_text mail_text date_text civil_of cookie sha256 hash_after digest_bytes compress rounds schedule first_words digits
clock_back = refl

another_letter : text asked (ask 31 1000000300 (codes "list-sc.1000000200.gejckjgcpngcagofooom-g=h@ex.org") ∷ []) ≡ codes "31 100 badcookie\n"
unfolding step step0 request_of request_text verdict sent_text mail_text date_text civil_of cookie sha256 hash_after digest_bytes compress rounds schedule first_words digits
another_letter = refl

looped : text asked (deliver 33 1000000300 (codes "g@h") (codes "list-subscribe@ex.org") (codes "Mailing-List: x\n" ++ m) ∷ []) ≡ codes "33 100 looped\n"
unfolding step step0 request_of request_text verdict sent_text mail_text date_text civil_of cookie sha256 hash_after digest_bytes compress rounds schedule first_words digits
looped = refl

no_request : text asked (ask 32 1000000300 (codes "list-get.007@ex.org") ∷ ask 33 1000000300 (codes "list-help@ex.org") ∷ []) ≡ codes "32 0 help\n33 0 help\n"
unfolding step step0 request_of request_text verdict sent_text mail_text date_text civil_of cookie sha256 hash_after digest_bytes compress rounds schedule first_words digits
no_request = refl

-- a new key, under which the former one's cookies stay good until their time ends
rekeyed : text asked (
    item 33 1000000300 (Rekey (replicate 32 255)) ∷ ask 34 1001000200 confirmation
    ∷ item 35 1001000300 (Rekey (replicate 32 0)) ∷ item 36 1001000301 (Rekey (replicate 32 0)) ∷ [])
    ≡ codes "33 0 rekeyed\n34 0 subscribed\n35 100 toosoon\n36 0 rekeyed\n"
unfolding step step0 request_of request_text verdict sent_text mail_text date_text civil_of cookie sha256 hash_after digest_bytes compress rounds schedule first_words digits
rekeyed = refl

-- a member leaves, and is asked first
leaving : text three (deliver 34 1000000200 (codes "a@b") (codes "LIST-Unsubscribe@EX.org") m ∷ ask 35 1000000200 (codes "list-unsubscribe@ex.org") ∷ []) ≡ codes "34 0 asked\n35 0 absent\n"
unfolding step step0 request_of request_text verdict sent_text mail_text date_text civil_of cookie sha256 hash_after digest_bytes compress rounds schedule first_words digits
leaving = refl

-- no confirmation is asked for
abbrev easy : State
easy = fold (a_list (record usual { h = true; j = true })) (ask 1 1000000200 (codes "list-subscribe@ex.org") ∷ [])

at_once : addresses easy.plain sets.List ≡ codes "g@h" ∷ []
unfolding step step0 request_of request_text verdict sent_text mail_text date_text civil_of cookie sha256 hash_after digest_bytes compress rounds schedule first_words digits
at_once = refl

gone_at_once : text easy (deliver 2 1000000200 (codes "G@h") (codes "list-unsubscribe@ex.org") m ∷ deliver 3 1000000200 (codes "G@h") (codes "list-unsubscribe@ex.org") m ∷ []) ≡ codes "2 0 unsubscribed\n3 0 absent\n"
unfolding step step0 request_of request_text verdict sent_text mail_text date_text civil_of cookie sha256 hash_after digest_bytes compress rounds schedule first_words digits
gone_at_once = refl

-- for another address it is asked for
for_another : text easy (ask 2 1000000200 (codes "list-subscribe-x=y@ex.org") ∷ ask 3 1000000200 (codes "list-allow-subscribe@ex.org") ∷ []) ≡ codes "2 0 asked\n3 100 private\n"
unfolding step step0 request_of request_text verdict sent_text mail_text date_text civil_of cookie sha256 hash_after digest_bytes compress rounds schedule first_words digits
for_another = refl

-- a moderated list, with its moderator
abbrev moderated : State
moderated = fold (a_list (record usual { m = true; l = true; r = true })) (add_to sets.Moderators (codes "m@o") ∷ add (codes "a@b") ∷ [])

abbrev from_moderator : ℕ → Text → Item
from_moderator number recipient = deliver number 1000000100 (codes "m@o") recipient m

held : text moderated (
    ask 40 1000000000 to_list ∷ from_moderator 41 (codes "list-accept-1.dlchffgkeobljkocbhcg@ex.org") ∷ from_moderator 42 (codes "list-accept-1.dlchffgkeobljkocbhcg@ex.org") ∷ [])
    ≡ codes "40 0 held 1\n41 0 posted 1\n42 100 gone\n"
unfolding step step0 request_of request_text verdict sent_text mail_text date_text civil_of cookie sha256 hash_after digest_bytes compress rounds schedule first_words digits
held = refl

rejected : text moderated (
    ask 40 1000000000 to_list ∷ from_moderator 41 (codes "list-reject-1.dlchffgkeobljkocbhch@ex.org") ∷ from_moderator 42 (codes "list-reject-1.dlchffgkeobljkocbhcg@ex.org") ∷ from_moderator 43 (codes "list-accept-1.dlchffgkeobljkocbhcg@ex.org") ∷ [])
    ≡ codes "40 0 held 1\n41 100 badcookie\n42 0 rejected\n43 100 gone\n"
unfolding step step0 request_of request_text verdict sent_text mail_text date_text civil_of cookie sha256 hash_after digest_bytes compress rounds schedule first_words digits
rejected = refl

expires : text moderated (ask 40 1000000000 to_list ∷ timed 1000431999 ∷ timed 1000432000 ∷ timed 1000432000 ∷ []) ≡ codes "40 0 held 1\n0 0 timed 0\n0 0 timed 1\n0 0 timed 0\n"
unfolding step step0 request_of request_text verdict sent_text mail_text date_text civil_of cookie sha256 hash_after digest_bytes compress rounds schedule first_words digits
expires = refl

administered : text moderated (
    from_moderator 1 (codes "list-list@ex.org") ∷ ask 2 0 (codes "list-list@ex.org") ∷ from_moderator 3 (codes "list-deny-subscribe-x=y@ex.org")
    ∷ from_moderator 4 (codes "list-unsubscribe-a=b@ex.org") ∷ from_moderator 5 (codes "list-subscribe-A=b@ex.org") ∷ deliver 6 0 (codes "x@y") (codes "list-owner@ex.org") [] ∷ [])
    ≡ codes "1 0 members\n2 100 private\n3 0 asked\n4 0 asked\n5 0 already\n6 0 owner\n"
unfolding step step0 request_of request_text verdict sent_text mail_text date_text civil_of cookie sha256 hash_after digest_bytes compress rounds schedule first_words digits
administered = refl
