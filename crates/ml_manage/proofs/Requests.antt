-- Requests that were read from a recipient's address are in their ranges.
use Rattle.std.proofs.Common.{◌≡◌, ◌≢◌, Bool, true, false, Some, refl, sym}
use Rattle.ml_base.specs.Bytes.{Text}
use Rattle.ml_address.specs.Reading.{request_of}
use Rattle.ml_address.specs.Requests.{PlainRequest, Post, Help, Owner, Subscribe, Unsubscribe, Members, Confirm, Get, Index, Thread, Accept, Reject, Bounce, WarnBounce, ProbeBounce, ReplyBounce, Other, is_in_range}
use Rattle.ml_address.proofs.Inverse.{request_is}
use Rattle.ml_manage.specs.Reads.{is_managed}

-- whether a request is neither a post nor a moderator's answer
abbrev pub is_other_than_posts : PlainRequest → Bool
is_other_than_posts Post = false
is_other_than_posts (Accept ticket cookie) = false
is_other_than_posts (Reject ticket cookie) = false
is_other_than_posts _ = true

module _ (local host text : Text) where
  in_range : (r : PlainRequest) → r ≢ Other → request_of local host text ≡ Some r → is_in_range r ≡ true
  in_range r other read = (request_is local host text r other read).0

  pub managed_read : (r : PlainRequest) → request_of local host text ≡ Some r → is_other_than_posts r ≡ is_managed r
  managed_read Post read = refl
  managed_read Help read = refl
  managed_read Owner read = refl
  managed_read (Subscribe set who) read = sym (in_range (Subscribe set who) (λ e. cc) read)
  managed_read (Unsubscribe set who) read = sym (in_range (Unsubscribe set who) (λ e. cc) read)
  managed_read (Members set) read = sym (in_range (Members set) (λ e. cc) read)
  managed_read (Confirm word set signed) read = sym (in_range (Confirm word set signed) (λ e. cc) read)
  managed_read (Get from to) read = sym (in_range (Get from to) (λ e. cc) read)
  managed_read (Index at) read = sym (in_range (Index at) (λ e. cc) read)
  managed_read (Thread at) read = sym (in_range (Thread at) (λ e. cc) read)
  managed_read (Accept ticket cookie) read = refl
  managed_read (Reject ticket cookie) read = refl
  managed_read (Bounce set number who) read = sym (in_range (Bounce set number who) (λ e. cc) read)
  managed_read (WarnBounce set signed) read = sym (in_range (WarnBounce set signed) (λ e. cc) read)
  managed_read (ProbeBounce set signed) read = sym (in_range (ProbeBounce set signed) (λ e. cc) read)
  managed_read (ReplyBounce set) read = sym (in_range (ReplyBounce set) (λ e. cc) read)
  managed_read Other read = refl
