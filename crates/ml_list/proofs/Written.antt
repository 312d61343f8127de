-- The puts of items are of files that they may write.
use Rattle.std.proofs.Common.{◌≡◌, ◌≢◌, ◌<◌, ◌≤◌, ℕ, zero, suc, ◌+◌, ◌-◌, ◌/◌, Bool, true, false, eqb, leb, ◌==◌, not, ◌&&◌, ◌||◌, List, [], ◌∷◌, map, Option, None, refl, ap, ◌∙◌, arith, subst}
use Rattle.std.proofs.lemmas.Bool.{and_from, and_parts, eq-eqb, eqb-true, le-leb, leb-true, ne_eqb, or_left, or_right}
use Rattle.std.specs.List.{range_with_len}
use Rattle.ml_address.specs.Reading.{request_of}
use Rattle.ml_base.specs.Bytes.{Text}
use Rattle.ml_base.specs.Dir.{Dir, same_name, touches_only}
use Rattle.ml_base.specs.declared.names.Name.{Name}
use Rattle.ml_base.specs.declared.puts.Put.{Put}
use Rattle.ml_config.specs.KeyFile.{key_name}
use Rattle.ml_config.specs.declared.configuration.Config.{Config}
use Rattle.ml_drawn.specs.Answers.{AreTaken, IsTaking}
use Rattle.ml_drawn.specs.Answers as drawn
use Rattle.ml_drawn.specs.declared.series.Series.TheVariants.{Ids}
use Rattle.ml_queue.specs.Answers.{entry_name}
use Rattle.ml_plain.specs.declared.Item.{Item}
use Rattle.ml_plain.specs.declared.Act.TheVariants.{Sent}
use Rattle.ml_plain.specs.Directory.{is_of_list}
use Rattle.ml_plain.specs.KeptFiles.{replies_name}
use Rattle.ml_acts.specs.Growing.{is_of_time}
use Rattle.ml_list.specs.Rising.{removal, removals, rise_puts}
use Rattle.ml_list.specs.Written.{is_delivered_by, is_reply_file, is_up_to, is_written_by, is_written_by_act, is_written_under, is_written_under_act}
use Rattle.ml_list.proofs.Risen.{in_order_is}
use Rattle.ml_acts.proofs.Queued.{touches_both, touches_weaker}

-- what its act may write, an item may
pub act_written : (item : Item) (puts : List Put) → touches_only (is_written_by_act item.act) puts ≡ true → touches_only (is_written_by item) puts ≡ true
act_written item puts own =
    touches_weaker (is_written_by_act item.act) (is_written_by item) puts (λ name e. or_left (is_written_by_act item.act name) (is_reply_file item.number name) e) own

reply_file : (number block : ℕ) → number ≢ 0 → (not (number == 0) && same_name (replies_name block) (replies_name block)) ≡ true
reply_file number block some = ap (λ (b : Bool). not b && same_name (replies_name block) (replies_name block)) (ne_eqb number 0 some) ∙ eq-eqb block block refl

-- and the file of its number's kept reply
pub reply_written : (item : Item) → item.number ≢ 0 → is_written_by item (replies_name (item.number / 512)) ≡ true
reply_written item some =
    or_right (is_written_by_act item.act (replies_name (item.number / 512))) (is_reply_file item.number (replies_name (item.number / 512))) (reply_file item.number (item.number / 512) some)

-- the same under a configuration
pub act_under : (c : Config) (item : Item) (puts : List Put) → touches_only (is_written_under_act c item.act) puts ≡ true → touches_only (is_written_under c item) puts ≡ true
act_under c item puts own =
    touches_weaker (is_written_under_act c item.act) (is_written_under c item) puts (λ name e. or_left (is_written_under_act c item.act name) (is_reply_file item.number name) e) own

pub reply_under : (c : Config) (item : Item) → item.number ≢ 0 → is_written_under c item (replies_name (item.number / 512)) ≡ true
reply_under c item some =
    or_right (is_written_under_act c item.act (replies_name (item.number / 512))) (is_reply_file item.number (replies_name (item.number / 512))) (reply_file item.number (item.number / 512) some)

-- a delivery of the same texts
pub delivered_under : (k : Config) (puts : List Put) (sender recipient from to : Text) → from ≡ sender → to ≡ recipient → touches_only (is_delivered_by from (request_of k.local k.host to)) puts ≡ true → touches_only (is_delivered_by sender (request_of k.local k.host recipient)) puts ≡ true
delivered_under k puts sender recipient from to a b own =
    subst (λ (t : Text). touches_only (is_delivered_by sender (request_of k.local k.host t)) puts ≡ true) b (subst (λ (t : Text). touches_only (is_delivered_by t (request_of k.local k.host to)) puts ≡ true) a own)

-- the files of a timed run, and the key, are the list's
pub time_listed : (name : Name) → is_of_time name ≡ true → is_of_list name ≡ true
time_listed name e =
    let both = and_parts (leb 12 name.kind) (leb name.kind 18) e in
    let low = leb-true 12 name.kind both.0 in
    or_left (leb 1 name.kind && leb name.kind 18) (eqb name.kind 20) (and_from (leb 1 name.kind) (leb name.kind 18) (le-leb 1 name.kind (omega (arith, low))) both.1)

pub key_listed : (name : Name) → same_name name key_name ≡ true → is_of_list name ≡ true
key_listed name e = ap (λ (kind : ℕ). (leb 1 kind && leb kind 18) || eqb kind 20) (eqb-true name.kind 2 (and_parts (eqb name.kind 2) (eqb name.at 0) e).0)

-- an entry that is taken out of the queue
pub taken_written : (dir : Dir) (id : ℕ) (txn : List Put) → IsTaking dir Ids id txn → touches_only (is_written_by_act (Sent id)) txn ≡ true
taken_written dir id txn taking = go (eqb taking.low id) taking.are
  where
    entry : is_written_by_act (Sent id) (entry_name id) ≡ true
    entry = or_left (eqb id id) false (eq-eqb id id refl)

    go : (b : Bool) → AreTaken dir Ids id taking.next b txn → touches_only (is_written_by_act (Sent id)) txn ≡ true
    go true are =
        ap (touches_only (is_written_by_act (Sent id))) (are.2 ∙ ap (λ (put : Put). drawn.removal Ids id ∷ put ∷ []) (are.1).is)
        ∙ and_from (is_written_by_act (Sent id) (entry_name id)) true entry refl
    go false are = ap (touches_only (is_written_by_act (Sent id))) are ∙ and_from (is_written_by_act (Sent id) (entry_name id)) true entry refl

removals_written : (last from n : ℕ) → from + n ≤ last + 1 → touches_only (is_up_to last) (map removal (range_with_len from n)) ≡ true
removals_written last from zero low = refl
removals_written last from (suc n) low =
    and_from (is_up_to last (replies_name from)) (touches_only (is_up_to last) (map removal (range_with_len (from + 1) n))) (le-leb from last (omega (arith, low))) (removals_written last (from + 1) n (omega (arith, low)))

-- the files that raising the floor writes
pub rise_written : (floor at : ℕ) (cut : Option Text) → floor < at → touches_only (is_up_to (at / 512)) (rise_puts floor at cut) ≡ true
rise_written floor at cut up =
    let order = in_order_is (λ name. None) floor at cut up in
    touches_both (is_up_to (at / 512)) (removals (floor / 512) (at / 512)) _ (removals_written (at / 512) (floor / 512) (at / 512 - floor / 512) (omega (arith, order)))
    (and_from (is_up_to (at / 512) (replies_name (at / 512))) true (le-leb (at / 512) (at / 512) (omega arith)) refl)
