use Rattle.dexval.proofs.Common.{◌≡◌, ◌+◌, ◌*◌, ◌∙◌, ℕ, List, [], length, ap, sym, subst, refl, arith, slice_index, uint_at, data_off, HasItem, NoItemAt, HasPools}
use Rattle.dexval.proofs.FileRead.{few_bytes}
use Rattle.dexval.proofs.Shapes.{within_is}
use Rattle.dexval.proofs.SetsChecked.{SetChecked, item_checked, none_checked, one_checked, no_item_next, no_item_order, some_set_checked, empty_set_checked}
use Rattle.dexval.proofs.SetsRead.{no_room, no_item, no_visibility}
use Rattle.dexval.proofs.set_checking.set_shape.Goals as goal
use Rattle.dexval.proofs.set_checking.set_shape.Goals.{then-place-data_off-via-then-place-data_off, then-place-data_off-via-else-place-data_off+then-at-bytes, then-place-data_off-via-else-place-data_off+else-at-bytes+then-bytes-at-gt-MOST_VISIBILITY}

pub returns-in_err-count : goal.returns-in_err-count
returns-in_err-count c = rw c.from_residual.ensures (λ p. no_room c.args.frame.now c.args.off c.in_err-count.ensures)

pub loop-i-init : goal.loop-i-init
loop-i-init c = record {
  least_fits = omega arith;
  light = omega arith;
  checked = λ p. none_checked c.args.frame.now c.args.pools.now p (c.args.off + 4) (uint_at c.args.frame.now c.args.off);
}

pub returns-then-place-data_off : goal.returns-then-place-data_off
returns-then-place-data_off c = λ p.
    let b = c.args.frame.now in
    let place : c.u32_at-place.result ≡ uint_at c.args.frame.now (c.args.off + 4 + 4 * c.loop-i.i) = c.u32_at-place.ensures ∙ ap (λ (x : List ℕ). uint_at x (c.args.off + 4 + 4 * c.loop-i.i)) c.bytes-bytes.ensures.bytes in
    let none : NoItemAt b c.u32_at-place.result = elim c.then-place-data_off.branch [
      | then-place-data_off-via-then-place-data_off w ↦ λ a at. absurd (omega (arith, at.in_data, c.data_off.ensures.off, w.if-place-data_off.true))
      | then-place-data_off-via-else-place-data_off+then-at-bytes w ↦ λ a at. absurd (omega (arith, within_is b c.u32_at-place.result a.visibility [] at.visibility, ap (λ (l : List ℕ). length l) c.bytes-bytes.ensures.bytes, w.if-at-bytes.true))
      | then-place-data_off-via-else-place-data_off+else-at-bytes+then-bytes-at-gt-MOST_VISIBILITY w ↦
          let bytes = c.bytes-bytes.result.now in subst (λ (b : List ℕ). NoItemAt b c.u32_at-place.result) c.bytes-bytes.ensures.bytes (no_visibility bytes c.u32_at-place.result c.args.pools.now (slice_index bytes c.u32_at-place.result) refl (omega (arith, w.if-bytes-at-gt-MOST_VISIBILITY.true)))
    ] in
    no_item_next b c.args.pools.now p c.args.off c.loop-i.i c.loop-i.least c.loop-i.weight (omega (arith, c.in_ok-count.ensures.1)) (c.loop-i.invariant.checked p) (subst (NoItemAt b) place none)

pub returns-in_err-typ : goal.returns-in_err-typ
returns-in_err-typ c = rw c.from_residual-in_err-typ.ensures (λ p.
    let place : c.u32_at-place.result ≡ uint_at c.args.frame.now (c.args.off + 4 + 4 * c.loop-i.i) = c.u32_at-place.ensures ∙ ap (λ (x : List ℕ). uint_at x (c.args.off + 4 + 4 * c.loop-i.i)) c.bytes-bytes.ensures.bytes in
    let q = subst (λ (b : List ℕ). HasPools b c.args.pools.now) (sym c.bytes-bytes.ensures.bytes) p in
    let none = subst (λ (b : List ℕ). NoItemAt b c.u32_at-place.result) c.bytes-bytes.ensures.bytes (no_item c.bytes-bytes.result.now c.u32_at-place.result c.args.pools.now (c.in_err-typ.ensures.checked q)) in
    no_item_next c.args.frame.now c.args.pools.now p c.args.off c.loop-i.i c.loop-i.least c.loop-i.weight (omega (arith, c.in_ok-count.ensures.1)) (c.loop-i.invariant.checked p) (subst (NoItemAt c.args.frame.now) place none))

pub returns-then-from-least : goal.returns-then-from-least
returns-then-from-least c = λ p.
    let b = c.args.frame.now in
    let read = c.in_ok-typ in
    let place : c.u32_at-place.result ≡ uint_at b (c.args.off + 4 + 4 * c.loop-i.i) = c.u32_at-place.ensures ∙ ap (λ (x : List ℕ). uint_at x (c.args.off + 4 + 4 * c.loop-i.i)) c.bytes-bytes.ensures.bytes in
    let bytes = c.bytes-bytes.result.now in
    let q = subst (λ (b : List ℕ). HasPools b c.args.pools.now) (sym c.bytes-bytes.ensures.bytes) p in
    let item = subst (λ (b : List ℕ). HasItem b c.u32_at-place.result c.args.pools.now read.typ read.annotation.weight) c.bytes-bytes.ensures.bytes
    (item_checked bytes c.u32_at-place.result c.args.pools.now (slice_index bytes c.u32_at-place.result) read.typ read.annotation.size read.annotation.weight (omega (arith, ap data_off c.bytes-bytes.ensures.bytes)) (omega arith) refl (omega arith) (c.in_ok-typ.ensures.checked q)) in
    no_item_order b c.args.pools.now p c.args.off c.loop-i.i c.loop-i.least c.loop-i.weight read.typ read.annotation.weight (omega (arith, c.in_ok-count.ensures.1)) (c.loop-i.invariant.checked p) (subst (λ (x : ℕ). HasItem b x c.args.pools.now read.typ read.annotation.weight) place item) (omega (arith, c.from.ensures))

pub loop-i-preserved : goal.loop-i-preserved
loop-i-preserved c =
    let b = c.args.frame.now in
    let m = c.args.pools.now in
    let read = c.in_ok-typ in
    let typ : read.typ ≡ c.from-least.result = omega (arith, c.from-least.ensures) in
    let place : c.u32_at-place.result ≡ uint_at b (c.args.off + 4 + 4 * c.loop-i.i) = c.u32_at-place.ensures ∙ ap (λ (x : List ℕ). uint_at x (c.args.off + 4 + 4 * c.loop-i.i)) c.bytes-bytes.ensures.bytes in
    record {
      least_fits = omega (arith, c.from-least.ensures);
      light = omega (arith, c.loop-i.invariant.light, c.in_ok-typ.ensures.light, c.in_ok-typ.ensures.within, ap (λ (l : List ℕ). length l) c.bytes-bytes.ensures.bytes, few_bytes b c.bytes-bytes.ensures.frame);
      checked = λ p.
          let bytes = c.bytes-bytes.result.now in
          let q = subst (λ (b : List ℕ). HasPools b m) (sym c.bytes-bytes.ensures.bytes) p in
          let item = subst (λ (b : List ℕ). HasItem b c.u32_at-place.result m read.typ read.annotation.weight) c.bytes-bytes.ensures.bytes
          (item_checked bytes c.u32_at-place.result m (slice_index bytes c.u32_at-place.result) read.typ read.annotation.size read.annotation.weight (omega (arith, ap data_off c.bytes-bytes.ensures.bytes)) (omega arith) refl (omega arith) (c.in_ok-typ.ensures.checked q)) in
          subst (λ (x : ℕ). SetChecked b (c.args.off + 4) m (uint_at b c.args.off) (c.loop-i.i + 1) (x + 1) (c.loop-i.weight + (4 + read.annotation.weight))) typ
          (one_checked b m p (c.args.off + 4) (uint_at b c.args.off) c.loop-i.i c.loop-i.least c.loop-i.weight read.typ read.annotation.weight (omega (arith, c.in_ok-count.ensures.1)) (omega (arith, c.from.ensures)) (c.loop-i.invariant.checked p)
          (subst (λ (x : ℕ). HasItem b x m read.typ read.annotation.weight) place item));
    }

pub returns-then-count-eq0 : goal.returns-then-count-eq0
returns-then-count-eq0 c = λ p. empty_set_checked c.args.frame.now c.args.pools.now p c.args.off c.loop-i.i c.loop-i.least c.loop-i.weight c.in_ok-count.count c.in_ok-count.ensures.0 (omega (arith, c.in_ok-count.ensures.1)) (omega arith) (omega arith) (c.loop-i.invariant.checked p)

pub returns-else-count-eq0 : goal.returns-else-count-eq0
returns-else-count-eq0 c = λ p. some_set_checked c.args.frame.now c.args.pools.now p c.args.off c.loop-i.i c.loop-i.least c.loop-i.weight c.in_ok-count.count c.in_ok-count.ensures.0 (omega (arith, c.in_ok-count.ensures.1)) (omega arith) (omega arith) (c.loop-i.invariant.checked p)
