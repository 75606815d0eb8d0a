-- Where in a file the types of parameters are listed.
use Rattle.dexids.proofs.Common.{◌≡◌, ◌≢◌, ℕ, ◌+◌, ◌-◌, ◌*◌, ◌/◌, List, length, sym, ap, ◌∙◌, subst, arith, uint_at, ushorts_at, length-ushorts_at, Span, HasSpan, HasRoom, IsPlaced, file_numbers, listed}
use Rattle.dexids.proofs.TypeLists.{listed_is}
use Rattle.dexids.proofs.FileLists.{part_of_file}

pub none_placed : (b : List ℕ) (o : ℕ) → o ≡ 0 → IsPlaced b o (record { start = 0; end = 0 })
none_placed b o e = record { room = λ ne. absurd (ne e); span = record { ordered = omega arith; within = omega arith }; is = sym (ap (listed b) e) }

pub some_placed : (b : List ℕ) (o n : ℕ) (s : Span) → HasRoom b o n → o ≢ 0 → s.start ≡ (o + 4) / 2 → s.end ≡ s.start + n → IsPlaced b o s
some_placed b o n s room ne start end =
    let aligned : 2 * s.start ≡ o + 4 = omega (arith, room.aligned, start) in
    let within : HasSpan (file_numbers b) s = record { ordered = omega (arith, end); within = omega (arith, end, aligned, room.in_data.within, room.count, length-ushorts_at b 0 (length b / 2)) } in
    let count : s.end - s.start ≡ uint_at b o = omega (arith, end, room.count) in
    record {
      room = λ some. subst (HasRoom b o) room.count room;
      span = within;
      is = part_of_file b s within ∙ (λ i. ushorts_at b (aligned i) (count i)) ∙ sym (listed_is b o ne);
    }
