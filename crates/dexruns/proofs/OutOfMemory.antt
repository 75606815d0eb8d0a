-- When a run over one input is out of memory.
use Rattle.dexruns.proofs.Common.{◌≡◌, ℕ, ◌+◌, ◌<◌, ◌≤◌, List, ◌++◌, length, take, min, ap, ◌∙◌, refl, arith, inl, inr, length-append, length-take-le, take_all, cases_lt, Result, Ok, Err, IfErr, IsAccepted, IsFrame, IsMemoryOf, bytes_read}
use Rattle.dexruns.specs.declared.faults.RunFault.{RunFault}
use Rattle.dexruns.specs.declared.faults.RunFault.TheVariants.{Memory}

-- there is room for the next byte where there is room for all that are expected, and all that come are
pub room_left : (filled expected room : ℕ) (bytes left whole : List ℕ) → filled ≤ length bytes → filled < 1073741825 → whole ≡ take filled bytes ++ left → length (bytes_read whole) ≤ expected → min expected 1073741824 < room → filled < room
room_left filled expected room bytes left whole within lt joined expects roomy =
    let count : length whole ≡ filled + length left = ap length joined ∙ length-append (take filled bytes) left ∙ ap (λ n. n + length left) (length-take-le filled bytes within) in
    let few : filled ≤ length (take 1073741825 whole) = elim (cases_lt (length whole) 1073741825) [
      | inl short ↦ omega (arith, count, ap length (take_all 1073741825 whole (omega arith)))
      | inr long ↦ omega (arith, length-take-le 1073741825 whole long)
    ] in
    omega (arith, few, expects, roomy)

-- the input was not called
pub unread_memory : (expects unread : Type 0) (b : List ℕ) (f : RunFault) → (f ≡ Memory → expects → unread) → IsMemoryOf expects unread b f
unread_memory expects unread b Memory none = λ e. inl (none refl e)
unread_memory expects unread b _ none = tt

-- its bytes are those of a file with header and map
pub frame_memory : (expects unread : Type 0) (b : List ℕ) (f : RunFault) → (f ≡ Memory → expects → IsFrame b) → IsMemoryOf expects unread b f
frame_memory expects unread b Memory frame = λ e. inr (frame refl e)
frame_memory expects unread b _ frame = tt

-- its bytes are accepted
pub accepted_memory : {T : Type 0} (expects unread : Type 0) (b : List ℕ) (r : Result T RunFault) → (expects → IsAccepted b) → IfErr r (IsMemoryOf expects unread b)
accepted_memory expects unread b (Ok t) accepted = tt
accepted_memory expects unread b (Err f) accepted = frame_memory expects unread b f (λ is e c lt. accepted e c)
