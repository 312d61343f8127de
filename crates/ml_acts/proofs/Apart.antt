-- What acts do is the same on every directory that has the files that they look at.
use Rattle.std.proofs.Common.{◌≡◌, ◌⊎◌, inl, inr, ◌<◌, ℕ, Bool, true, List, map, Option, refl, sym, ap, ◌∙◌, subst}
use Rattle.std.proofs.lemmas.Bool.{and_from, eq-eqb, lt-ltb, or_cases, or_left, or_right}
use Rattle.ml_address.specs.declared.Path.{Path}
use Rattle.ml_base.specs.Bytes.{Text}
use Rattle.ml_base.specs.Dir.{Dir, same_name, with_puts, touches_only}
use Rattle.ml_base.specs.Drawn.{IsCounter}
use Rattle.ml_base.specs.Name.{set_kind}
use Rattle.ml_base.specs.declared.names.Name.{Name}
use Rattle.ml_base.specs.declared.names.Set.{Set}
use Rattle.ml_base.specs.declared.puts.Put.{Put}
use Rattle.ml_base.proofs.Bools.{one_name}
use Rattle.ml_drawn.specs.Answers.{IsDrawing}
use Rattle.ml_drawn.specs.declared.series.Series.TheVariants.{Ids}
use Rattle.ml_drawn.proofs.OfFiles as drawn
use Rattle.ml_queue.specs.Answers.{ids_name}
use Rattle.ml_queue.specs.Queue.{IsOut, out_text, put}
use Rattle.ml_queue.specs.declared.entries.Out.{Out}
use Rattle.ml_subs.specs.Buckets.{IsBucketFile, bucket_of}
use Rattle.ml_subs.specs.Members.{has_key}
use Rattle.ml_subs.specs.Subscribers.{AreJoined, bucket_name, count_name, is_of_set}
use Rattle.ml_subs.specs.declared.member_list.Member.{Member}
use Rattle.ml_subs.proofs.Answering.{has_of_set}
use Rattle.ml_subs.proofs.Represented.{joined_one}
use Rattle.ml_plain.specs.Directory.{IsList}
use Rattle.ml_plain.specs.Mailing.{send}
use Rattle.ml_plain.specs.Plain.{Plain, addresses}
use Rattle.ml_plain.proofs.PartChanges.{queue_changed}
use Rattle.ml_acts.specs.Doing.{Alike, is_bucket, is_mailed_by, is_of_queue, is_with_queue}
use Rattle.ml_acts.specs.Found.{QueuesOut, SpellsAddresses, TellsMember}

-- what is alike for more names is so for fewer
pub alike_fewer : (few more : Name → Bool) (old dir : Dir) → ((name : Name) → few name ≡ true → more name ≡ true) → Alike more old dir → Alike few old dir
alike_fewer few more old dir weak alike name e = alike name (weak name e)

-- the files that are read for a mail to a set: its buckets, and the next id
pub bucket_mailed : (set : Set) (name : Name) → is_bucket set name ≡ true → is_mailed_by set name ≡ true
bucket_mailed set name e = or_left (is_bucket set name) (same_name name ids_name) e

pub ids_mailed : (set : Set) → is_mailed_by set ids_name ≡ true
ids_mailed set = or_right (is_bucket set ids_name) (same_name ids_name ids_name) refl

module _ (old dir : Dir) (set : Set) (alike : Alike (is_mailed_by set) old dir) where
  pub buckets_alike : Alike (is_bucket set) old dir
  buckets_alike name e = alike name (bucket_mailed set name e)

  pub ids_alike : dir ids_name ≡ old ids_name
  ids_alike = alike ids_name (ids_mailed set)

-- whether a set has a key, by the one bucket of it
pub member_apart : (old dir : Dir) (set : Set) (k : Text) (has : Bool) (p : Plain) → dir (bucket_name set (bucket_of k)) ≡ old (bucket_name set (bucket_of k)) → TellsMember old set k has → IsList dir p → has ≡ has_key k (p.sets set)
member_apart old dir set k has p same tells is =
    tells.2 ∙ sym (has_of_set dir set (p.sets set) tells.0 k (is.sets set) (subst (λ (f : Option Text). IsBucketFile (bucket_of k) f tells.0) (sym same) tells.1))

bucket_in : (set : Set) (n : ℕ) → n < 53 → is_bucket set (bucket_name set n) ≡ true
bucket_in set n less = and_from _ _ (eq-eqb (set_kind set) (set_kind set) refl) (lt-ltb n 53 less)

-- the members of a set, by its buckets
joined_apart : (old dir : Dir) (set : Set) (ms : List Member) → Alike (is_bucket set) old dir → AreJoined old set ms → AreJoined dir set ms
joined_apart old dir set ms alike is = record {
  sorted = is.sorted;
  buckets = is.buckets;
  files = λ n less. subst (λ (f : Option Text). IsBucketFile n f (is.buckets n)) (sym (alike (bucket_name set n) (bucket_in set n less))) (is.files n less);
  by_key = is.by_key;
}

pub members_apart : (old dir : Dir) (set : Set) (to : List Text) (p : Plain) → Alike (is_bucket set) old dir → SpellsAddresses old set to → IsList dir p → to ≡ addresses p set
members_apart old dir set to p alike spells is =
    spells.2 ∙ ap (λ (ms : List Member). map (λ m. m.who) ms) (joined_one dir set spells.0 (p.sets set) (joined_apart old dir set spells.0 alike spells.1) ((is.sets set).members))

-- an entry of the queue, by the next id
queued_own : (old : Dir) (text : Text) (n : ℕ) (txn : List Put) → IsDrawing old Ids text n txn → touches_only is_of_queue txn ≡ true
queued_own old text n txn d = subst (λ (puts : List Put). touches_only is_of_queue puts ≡ true) (sym d.are) refl

drawing_apart : (old dir : Dir) (text : Text) (n : ℕ) (txn : List Put) → dir ids_name ≡ old ids_name → IsDrawing old Ids text n txn → IsDrawing dir Ids text n txn
drawing_apart old dir text n txn same d = record {
  low = d.low;
  counted = subst (λ (f : Option Text). IsCounter f d.low n) (sym same) d.counted;
  drawn = d.drawn;
  are = d.are;
}

pub queued_apart : (old dir : Dir) (out : Out) (txn : List Put) (p : Plain) → IsOut out → dir ids_name ≡ old ids_name → QueuesOut old out txn → IsList dir p → IsList (with_puts dir txn) (record p { queue = put out p.queue })
queued_apart old dir out txn p is_out same queued is =
    queue_changed dir p txn (put out p.queue) is (queued_own old (out_text out) queued.0 txn queued.1)
    ((drawn.drawing IsOut out_text Ids dir out queued.0 txn p.queue is_out (drawing_apart old dir (out_text out) queued.0 txn same queued.1) is.queue).1)

-- a body that goes to the members of a set
pub sent_to_set : (old new dir : Dir) (set : Set) (p : Plain) (text : Text) (way : Path) (to : List Text) (txn : List Put) → new ≡ old → SpellsAddresses old set to
    → ((dir : Dir) (p : Plain) → dir ids_name ≡ new ids_name → IsList dir p → IsList (with_puts dir txn) (send way text to p))
    → Alike (is_mailed_by set) old dir → IsList dir p → IsList (with_puts dir txn) (send way text (addresses p set) p)
sent_to_set old new dir set p text way to txn kept spells puts alike is =
    subst (λ (t : List Text). IsList (with_puts dir txn) (send way text t p)) (members_apart old dir set to p (buckets_alike old dir set alike) spells is)
    (puts dir p (ids_alike old dir set alike ∙ sym (ap (λ (d : Dir). d ids_name) kept)) is)

-- what is read for a mail to a set is of the queue or of the set
pub mailed_with : (set : Set) (name : Name) → is_mailed_by set name ≡ true → is_with_queue set name ≡ true
mailed_with set name e = go (or_cases (is_bucket set name) (same_name name ids_name) e)
  where
    go : ((is_bucket set name ≡ true) ⊎ (same_name name ids_name ≡ true)) → is_with_queue set name ≡ true
    go (inl b) = or_right (is_of_queue name) (is_of_set set name) (or_left (is_bucket set name) (same_name name (count_name set)) b)
    go (inr c) = or_left (is_of_queue name) (is_of_set set name) (ap is_of_queue (one_name name ids_name c))
