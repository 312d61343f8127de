use Rattle.std.proofs.Common.{◌≡◌, ◌≤◌, ◌+◌, ◌-◌, ◌<◌, ap, ap₂, ◌∙◌, length, arith}
use Rattle.ml_base.specs.Bytes.{Text}
use Rattle.ml_stream.specs.Writing.{spelled_item}
use Rattle.ml_generated.specs.Items.{item}
use Rattle.ml_generated.specs.declared.item_source.Generated.{Generated}
use Rattle.ml_generated.proofs.Streams.{item_size, room}
use Rattle.ml_generated.proofs.Turning.{turned}
use Rattle.ml_generated.proofs.item_source.Generated.turn.Goals as goal

-- the next item fits into the buffer
next_short : (g : Generated) (fresh : Text) → 0 < g.ahead → fresh ≡ spelled_item (item g.local g.host g.next) → length fresh ≤ 1024
next_short g fresh some is = let size = item_size g.local g.host g.next g.local_fits g.host_fits (let all = g.few in omega (arith, all, some)) in omega (arith, size, ap length is)

fresh_is : (g : Generated) (fresh local host : Text) → fresh ≡ spelled_item (item local host g.next) → local ≡ g.local → host ≡ g.host → fresh ≡ spelled_item (item g.local g.host g.next)
fresh_is g fresh local host is one two = is ∙ ap₂ (λ (l h : Text). spelled_item (item l h g.next)) one two

pub invariant_of-self-clause-short : goal.invariant_of-self-clause-short
invariant_of-self-clause-short c =
    let g = c.args.self.now in
    let is = fresh_is g c.item-self.result c.as_slice.result.now c.as_slice-then-self-gt0.result.now c.item-self.ensures.text c.as_slice.ensures c.as_slice-then-self-gt0.ensures in
    next_short g c.item-self.result c.if-self-gt0.true is

pub invariant_of-self-clause-room : goal.invariant_of-self-clause-room
invariant_of-self-clause-room c =
    let g = c.args.self.now in
    let all = g.few in
    let some = c.if-self-gt0.true in
    let is = fresh_is g c.item-self.result c.as_slice.result.now c.as_slice-then-self-gt0.result.now c.item-self.ensures.text c.as_slice.ensures c.as_slice-then-self-gt0.ensures in
    room g.local g.host c.item-self.result 0 (g.next + 1) (g.ahead - 1) g.local_fits g.host_fits (omega (arith, all, some)) (next_short g c.item-self.result some is)

pub returns-then-self-gt0-clause-left : goal.returns-then-self-gt0-clause-left
returns-then-self-gt0-clause-left c =
    let g = c.args.self.now in
    let is = fresh_is g c.item-self.result c.as_slice.result.now c.as_slice-then-self-gt0.result.now c.item-self.ensures.text c.as_slice.ensures c.as_slice-then-self-gt0.ensures in
    turned g.local g.host g.item c.item-self.result g.at g.next g.ahead (c.if-self-len.true ∙ c.len.ensures) c.if-self-gt0.true is
