use Rattle.std.proofs.Common.{rules, ◌≡◌, ◌<◌, ◌∷◌, length, Some, None, ap, arith, length-append}
use Rattle.ml_base.specs.Netstrings.{netstring_at, ns}
use Rattle.ml_base.proofs.Netstrings.{netstring_read}
use Rattle.ml_journal.specs.Found.{puts_found}
use Rattle.ml_journal.specs.Records.{puts_of}
use Rattle.ml_journal.proofs.ReadSoFar.{after, next_record, no_row}
use Rattle.ml_journal.proofs.log_reader.puts_in.Goals as goal

pub returns-then-not-branch : goal.returns-then-not-branch
returns-then-not-branch c =
    let found : (c.loop-text.rest.now ≡ 1 ∷ c.in-Some.text.now) × (0 < length c.in-Some.text.now) = search rules in
    let read : netstring_at c.in-Some.text.now ≡ Some (c.in-Some-split_netstring.puts.now, c.in-Some-split_netstring.after.now) = search rules in
    let row : after (puts_found c.loop-text.found.items) (puts_of c.in-Some-split_netstring.puts.now) ≡ None = search rules in
    no_row c.args.log.now c.in-Some.text.now c.in-Some-split_netstring.puts.now c.in-Some-split_netstring.after.now (puts_found c.loop-text.found.items) c.loop-text.rest.now found.0 found.1 read row c.loop-text.invariant

pub loop-text-smaller : goal.loop-text-smaller
loop-text-smaller c =
    let found : (c.loop-text.rest.now ≡ 1 ∷ c.in-Some.text.now) × (0 < length c.in-Some.text.now) = search rules in
    let read : netstring_at c.in-Some.text.now ≡ Some (c.in-Some-split_netstring.puts.now, c.in-Some-split_netstring.after.now) = search rules in
    let split = netstring_read c.in-Some.text.now c.in-Some-split_netstring.puts.now c.in-Some-split_netstring.after.now read in
    omega (arith, ap length found.0, ap length split.1, length-append (ns c.in-Some-split_netstring.puts.now) c.in-Some-split_netstring.after.now)

pub loop-text-preserved : goal.loop-text-preserved
loop-text-preserved c =
    let found : (c.loop-text.rest.now ≡ 1 ∷ c.in-Some.text.now) × (0 < length c.in-Some.text.now) = search rules in
    let read : netstring_at c.in-Some.text.now ≡ Some (c.in-Some-split_netstring.puts.now, c.in-Some-split_netstring.after.now) = search rules in
    let row : after (puts_found c.loop-text.found.items) (puts_of c.in-Some-split_netstring.puts.now) ≡ Some (puts_found c.add_puts_of.new.found.items) = search rules in
    next_record c.args.log.now c.in-Some.text.now c.in-Some-split_netstring.puts.now c.in-Some-split_netstring.after.now (puts_found c.loop-text.found.items) (puts_found c.add_puts_of.new.found.items) c.loop-text.rest.now found.0 found.1 read row c.loop-text.invariant
