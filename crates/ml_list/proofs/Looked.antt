-- What an item does is the same on every directory that has the files that it looks at.
use Rattle.std.proofs.Common.{◌≡◌, ◌/◌, ◌*◌, ◌<◌, ◌≢◌, ◌==◌, ℕ, true, false, not, ◌||◌, List, Option, Some, None, Result, Ok, Err, IfErr, refl, sym, ap, subst}
use Rattle.std.proofs.lemmas.Bool.{and_from, ne_eqb}
use Rattle.ml_base.specs.Bytes.{Text}
use Rattle.ml_base.specs.Dir.{Dir, same_name, with_puts}
use Rattle.ml_base.specs.PartErrors.{OnDamaged}
use Rattle.ml_base.specs.declared.names.Name.{Name}
use Rattle.ml_base.specs.declared.part_error.PartError.{PartError}
use Rattle.ml_base.specs.declared.part_error.PartError.TheVariants.{Memory}
use Rattle.ml_base.specs.declared.puts.Put.{Put}
use Rattle.ml_base.proofs.DamagedNames.{err_damaged}
use Rattle.ml_config.specs.KeyFile.{IsKeyFile, key_name}
use Rattle.ml_config.specs.declared.key_file.Keys.{Keys}
use Rattle.ml_queue.specs.Answers.{IsSent}
use Rattle.ml_queue.specs.Queue.{IsQueue, Queue, without_id}
use Rattle.ml_plain.proofs.Frames.{queue_frame}
use Rattle.ml_plain.specs.Directory.{IsState}
use Rattle.ml_acts.specs.Doing.{Alike, is_of_queue}
use Rattle.ml_acts.proofs.Queued.{laid_same}
use Rattle.ml_plain.specs.Histories.{Kept, State}
use Rattle.ml_plain.specs.KeptFiles.{IsFloorFile, IsRepliesFile, floor_name, replies_name}
use Rattle.ml_plain.specs.declared.Item.{Item}
use Rattle.ml_list.specs.Damage.{IsNoFloor, IsNoReplies, is_looked_up}
use Rattle.ml_list.specs.Delivering.{is_other}
use Rattle.ml_manage.specs.Reads.{is_seen_for_sender}
use Rattle.ml_list.specs.Looked.{AlikeFor, AlikeForAct, AlikeForMail, AlikeForRequest}
use Rattle.ml_address.specs.Reading.{request_of}
use Rattle.ml_address.specs.Requests.{PlainRequest, Post, Help, Owner, Subscribe, Unsubscribe, Members, Confirm, Get, Index, Thread, Accept, Reject, Bounce, WarnBounce, ProbeBounce, ReplyBounce, Other}
use Rattle.ml_config.specs.declared.configuration.Config.{Config}
use Rattle.ml_plain.specs.declared.Act.{Act}
use Rattle.ml_plain.specs.declared.Act.TheVariants.{Deliver, Timed, Add, Remove, Sent, Rekey, Floor}
use Rattle.ml_list.proofs.Lists.{same_self}
use Rattle.ml_list.proofs.Named.{reads_replies}

-- a directory is alike to itself
request_self : (c : Config) (sender m : Text) (request : Option PlainRequest) (dir : Dir) → AlikeForRequest c sender m request dir dir
request_self c sender m None dir = tt
request_self c sender m (Some Post) dir = λ name e of. refl
request_self c sender m (Some Help) dir = λ name e. refl
request_self c sender m (Some Owner) dir = λ name e. refl
request_self c sender m (Some (Subscribe set who)) dir = λ name e. refl
request_self c sender m (Some (Unsubscribe set who)) dir = λ name e. refl
request_self c sender m (Some (Members set)) dir = λ name e. refl
request_self c sender m (Some (Confirm word set signed)) dir = λ name e. refl
request_self c sender m (Some (Get from to)) dir = λ name e. refl
request_self c sender m (Some (Index at)) dir = λ name e. refl
request_self c sender m (Some (Thread at)) dir = λ name e. refl
request_self c sender m (Some (Accept ticket cookie)) dir = record { same = λ name e of. refl; waits = λ other above drawn. refl }
request_self c sender m (Some (Reject ticket cookie)) dir = record { same = λ name e of. refl; waits = λ other above drawn. refl }
request_self c sender m (Some (Bounce set number who)) dir = λ name e. refl
request_self c sender m (Some (WarnBounce set signed)) dir = λ name e. refl
request_self c sender m (Some (ProbeBounce set signed)) dir = λ name e. refl
request_self c sender m (Some (ReplyBounce set)) dir = λ name e. refl
request_self c sender m (Some Other) dir = λ name e. refl

act_self : (act : Act) (dir : Dir) → AlikeForAct act dir dir
act_self (Deliver sender recipient m) dir = record { config = refl; served = λ c is. record { counters = λ name e. refl; asked = request_self c sender m (request_of c.local c.host recipient) dir } }
act_self Timed dir = record { config = refl; timed = λ c is name e. refl }
act_self (Add set who) dir = λ name e. refl
act_self (Remove set who) dir = λ name e. refl
act_self (Sent id) dir = λ name e. refl
act_self (Rekey new) dir = λ name e. refl
act_self (Floor at) dir = λ name e. refl

pub alike_self : (item : Item) (dir : Dir) → AlikeFor item dir dir
alike_self item dir = record { number = λ name e. refl; act = act_self item.act dir }

-- a delivery of the same texts
pub mail_so : (old dir : Dir) (sender recipient m from to text : Text) → from ≡ sender → to ≡ recipient → text ≡ m → AlikeForMail sender recipient m old dir → AlikeForMail from to text old dir
mail_so old dir sender recipient m from to text a b c alike =
    subst (λ (s : Text). AlikeForMail s to text old dir) (sym a) (subst (λ (r : Text). AlikeForMail sender r text old dir) (sym b) (subst (λ (t : Text). AlikeForMail sender recipient t old dir) (sym c) alike))

-- a request that is neither a post nor a moderator's answer looks at what it may read, and at the posts that it asks for
pub other_alike : (c : Config) (sender m : Text) (r : PlainRequest) (old dir : Dir) → is_other r ≡ true → AlikeForRequest c sender m (Some r) old dir → Alike (is_seen_for_sender c sender r) old dir
other_alike c sender m Post old dir is alike = absurd (let bad : false ≡ true = is in cc)
other_alike c sender m (Accept ticket cookie) old dir is alike = absurd (let bad : false ≡ true = is in cc)
other_alike c sender m (Reject ticket cookie) old dir is alike = absurd (let bad : false ≡ true = is in cc)
other_alike c sender m r old dir is alike = alike

-- a file under a name is the same in both
pub file_there : (name : Name) (old dir : Dir) → Alike (λ other. same_name other name) old dir → dir name ≡ old name
file_there name old dir alike = alike name (same_self name)

-- so are the keys
pub keys_there : (old dir : Dir) (keys : Keys) → Alike (λ other. same_name other key_name) old dir → IsKeyFile (old key_name) keys → IsKeyFile (dir key_name) keys
keys_there old dir keys alike is = subst (λ (f : Option Text). IsKeyFile f keys) (sym (file_there key_name old dir alike)) is

pub keys_whole : {T : Type 0} (old dir : Dir) (keys : Keys) (r : Result T PartError) → Alike (λ other. same_name other key_name) old dir → IsKeyFile (dir key_name) keys
    → IfErr r (λ e. OnDamaged e (λ _. (ks : Keys) → ¬ IsKeyFile (old key_name) ks)) → IfErr r (λ e. OnDamaged e (λ _. ⊥))
keys_whole old dir keys r alike is bad =
    err_damaged r (λ _. (ks : Keys) → ¬ IsKeyFile (old key_name) ks) (λ _. ⊥) (λ name none. none keys (subst (λ (f : Option Text). IsKeyFile f keys) (file_there key_name old dir alike) is)) bad

-- the queue of both is the same, and so is what is taken out of it
pub queue_there : (old dir : Dir) (queue : Queue) → Alike is_of_queue old dir → IsQueue dir queue → IsQueue old queue
queue_there old dir queue alike is = queue_frame dir old queue (λ at. sym (alike (record { kind = 17; at = at }) refl)) (λ at. sym (alike (record { kind = 18; at = at }) refl)) is

pub sent_there : (old dir : Dir) (queue : Queue) (id : ℕ) (answer : Option (List Put)) → Alike is_of_queue old dir → IsSent old queue id answer → IsSent dir queue id answer
sent_there old dir queue id None alike is = is
sent_there old dir queue id (Some txn) alike is =
    (is.0, queue_frame (with_puts old txn) (with_puts dir txn) (without_id id queue) (λ at. laid_same old dir txn (record { kind = 17; at = at }) (alike (record { kind = 17; at = at }) refl)) (λ at. laid_same old dir txn (record { kind = 18; at = at }) (alike (record { kind = 18; at = at }) refl)) is.1)

-- the floor's file and a file of kept replies are the same in both
module _ (old dir : Dir) (n : ℕ) (alike : Alike (λ name. same_name name floor_name || same_name name (replies_name (n / 512))) old dir) where
  same_floor_file : dir floor_name ≡ old floor_name
  same_floor_file = alike floor_name refl

  same_replies_file : dir (replies_name (n / 512)) ≡ old (replies_name (n / 512))
  same_replies_file = alike (replies_name (n / 512)) (reads_replies n)

  pub floor_there : (floor : ℕ) → IsFloorFile (old floor_name) floor → IsFloorFile (dir floor_name) floor
  floor_there floor is = subst (λ (f : Option Text). IsFloorFile f floor) (sym same_floor_file) is

  -- the replies that the other directory has are those that were read
  pub replies_there : (q : State) → IsState dir q → n / 512 < 1_953_125_000 → IsRepliesFile (512 * (n / 512)) (old (replies_name (n / 512))) q.kept
  replies_there q is block = subst (λ (f : Option Text). IsRepliesFile (512 * (n / 512)) f q.kept) same_replies_file ((is.replies).files (n / 512) block)

  pub cut_there : (kept : Kept) → IsRepliesFile (512 * (n / 512)) (dir (replies_name (n / 512))) kept → IsRepliesFile (512 * (n / 512)) (old (replies_name (n / 512))) kept
  cut_there kept is = subst (λ (f : Option Text). IsRepliesFile (512 * (n / 512)) f kept) same_replies_file is

  pub floor_whole : {T : Type 0} (q : State) (r : Result T PartError) → IsState dir q → IfErr r (λ e. OnDamaged e (λ _. IsNoFloor old)) → IfErr r (λ e. OnDamaged e (λ _. ⊥))
  floor_whole q r is bad = err_damaged r (λ _. IsNoFloor old) (λ _. ⊥) (λ name none. none q.floor (subst (λ (f : Option Text). IsFloorFile f q.floor) same_floor_file (is.replies).from)) bad

  pub replies_whole : {T : Type 0} (q : State) (r : Result T PartError) → IsState dir q → n / 512 < 1_953_125_000 → IfErr r (λ e. OnDamaged e (λ _. IsNoReplies old (n / 512))) → IfErr r (λ e. OnDamaged e (λ _. ⊥))
  replies_whole q r is block bad = err_damaged r (λ _. IsNoReplies old (n / 512)) (λ _. ⊥) (λ name none. none q.kept (replies_there q is block)) bad

-- what is looked up for a number that isn't 0
pub looked_up_there : (old dir : Dir) (n : ℕ) → n ≢ 0 → Alike (is_looked_up n) old dir → Alike (λ name. same_name name floor_name || same_name name (replies_name (n / 512))) old dir
looked_up_there old dir n some alike name e = alike name (and_from (not (n == 0)) (same_name name floor_name || same_name name (replies_name (n / 512))) (ap not (ne_eqb n 0 some)) e)

-- so the file of a number's reply is the same
pub reply_file_there : (old dir : Dir) (n : ℕ) → n ≢ 0 → Alike (is_looked_up n) old dir → dir (replies_name (n / 512)) ≡ old (replies_name (n / 512))
reply_file_there old dir n some alike = looked_up_there old dir n some alike (replies_name (n / 512)) (reads_replies n)

-- a call whose only error is lack of memory names no file
pub err_only : {T : Type 0} (r : Result T PartError) → IfErr r (λ e. e ≡ Memory) → IfErr r (λ e. OnDamaged e (λ _. ⊥))
err_only (Ok x) only = tt
err_only (Err e) only = subst (λ (e : PartError). OnDamaged e (λ _. ⊥)) (sym only) tt
