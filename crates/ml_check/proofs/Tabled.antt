-- The files that a check may read are in the table of files.
use Rattle.std.proofs.Common.{◌≡◌, ◌<◌, ◌&&◌, inl, inr, ℕ, true, false, IsTrue, eqb, nat_le, nat_lt, refl, sym, ap, subst, arith}
use Rattle.std.proofs.lemmas.Bool.{and_parts, eqb-true, leb-true, ltb-true, or_cases}
use Rattle.std.proofs.Math.Logic.{⊎_elim}
use Rattle.ml_base.specs.Dir.{same_name}
use Rattle.ml_base.specs.Name.{is_in_table, set_kind}
use Rattle.ml_base.specs.Ranges.{is_drawn}
use Rattle.ml_base.specs.declared.names.Name.{Name}
use Rattle.ml_base.specs.declared.names.Set.{Set}
use Rattle.ml_base.specs.declared.names.Set.TheVariants as sets
use Rattle.ml_base.proofs.Bools.{one_name}
use Rattle.ml_filing.proofs.Looking.{group_in_table}
use Rattle.ml_filing.proofs.Represented.{in_table}
use Rattle.ml_archive.specs.Breaks.{IsAuditName}
use Rattle.ml_bounce.specs.Answers.{has_ledger, ledger_kind}
use Rattle.ml_bounce.specs.Files.{ledger_name}
use Rattle.ml_hold.specs.Answers.{IsHeldName, post_name}
use Rattle.ml_subs.specs.Subscribers.{count_name, is_of_set}
use Rattle.ml_reading.specs.declared.queries.Query.TheVariants as queries
use Rattle.ml_reading.proofs.Paths as paths
use Rattle.ml_check.specs.Damage.{MayRead, reads_keys, reads_set, reads_bucket, reads_archive, reads_mark, reads_held, reads_ledger, reads_queue, reads_floor}

at_name : (name other : Name) → name ≡ other → IsTrue (is_in_table other) → IsTrue (is_in_table name)
at_name name other same is = subst (λ (x : Name). IsTrue (is_in_table x)) (sym same) is

count_in : (set : Set) → IsTrue (is_in_table (count_name set))
count_in sets.List = refl
count_in sets.Digest = refl
count_in sets.Allow = refl
count_in sets.Deny = refl
count_in sets.Moderators = refl

set_in : (set : Set) (name : Name) → is_of_set set name ≡ true → IsTrue (is_in_table name)
set_in set name e = ⊎_elim bucket (λ c. at_name name (count_name set) (one_name name (count_name set) c) (count_in set)) (or_cases (eqb name.kind (set_kind set) && nat_lt name.at 53) (same_name name (count_name set)) e)
  where
    bucket : (eqb name.kind (set_kind set) && nat_lt name.at 53) ≡ true → IsTrue (is_in_table name)
    bucket b =
        let parts = and_parts (eqb name.kind (set_kind set)) (nat_lt name.at 53) b in
        paths.read_in_table (queries.Members set false) name (name.at, ltb-true name.at 53 parts.1, ap (λ (k : ℕ). record { kind = k; at = name.at }) (eqb-true name.kind (set_kind set) parts.0))

audit_in : (name : Name) → IsAuditName name → IsTrue (is_in_table name)
audit_in name (inl e) = at_name name _ e refl
audit_in name (inr (inl (g, less, inl e))) = at_name name _ e refl
audit_in name (inr (inl (g, less, inr e))) = at_name name _ e (group_in_table g less)
audit_in name (inr (inr (n, less, e))) = at_name name _ e (in_table 20 n 0 255 refl refl (omega arith) (omega (arith, less)))

ticket_in : (ticket : ℕ) → IsTrue (is_drawn ticket) → IsTrue (is_in_table (post_name ticket))
ticket_in ticket drawn =
    let parts = and_parts (nat_le 1 ticket) (nat_le ticket 1_000_000_000_000_000) drawn in
    in_table 13 ticket 1 1_000_000_000_000_000 refl refl (leb-true 1 ticket parts.0) (leb-true ticket 1_000_000_000_000_000 parts.1)

held_in : (name : Name) → IsHeldName name → IsTrue (is_in_table name)
held_in name (inl e) = at_name name _ e refl
held_in name (inr found) = at_name name _ found.1.1 (ticket_in found.0 found.1.0)

ledger_in : (set : Set) (n : ℕ) → IsTrue (has_ledger set) → n < 53 → IsTrue (is_in_table (ledger_name (ledger_kind set) n))
ledger_in sets.List n has less = in_table 15 n 0 52 refl refl (omega arith) (omega (arith, less))
ledger_in sets.Digest n has less = in_table 16 n 0 52 refl refl (omega arith) (omega (arith, less))
ledger_in sets.Allow n has less = absurd (let bad : false ≡ true = has in cc)
ledger_in sets.Deny n has less = absurd (let bad : false ≡ true = has in cc)
ledger_in sets.Moderators n has less = absurd (let bad : false ≡ true = has in cc)

pub read_in_table : (name : Name) → MayRead name → IsTrue (is_in_table name)
read_in_table name (reads_keys e) = at_name name _ e refl
read_in_table name (reads_set set of) = set_in set name of
read_in_table name (reads_bucket set of) = paths.read_in_table (queries.Members set false) name of
read_in_table name (reads_archive of) = audit_in name of
read_in_table name (reads_mark e) = at_name name _ e refl
read_in_table name (reads_held of) = held_in name of
read_in_table name (reads_ledger set has of) = at_name name _ of.2 (ledger_in set of.0 has of.1)
read_in_table name (reads_queue of) = paths.read_in_table queries.Queue name of
read_in_table name (reads_floor e) = at_name name _ e refl
