-- Runs of units, one from the other.
use Rattle.dexstr.proofs.Common.{◌≡◌, ℕ, zero, suc, ◌+◌, ◌-◌, ◌*◌, ◌≤◌, ◌<◌, ◌^◌, List, [], ◌∷◌, ◌++◌, length, take, drop, refl, ap, subst, sym, ◌∙◌, arith, append_assoc, length-append, length-drop, take-append-drop, drop_at, flat_map-cons, form, spelling, All-cons, Shape, One, Two, Three, BeginsWithUnit, BeginsWithNone, cases_lt, inl, inr}
use Rattle.std.specs.Prelude.{slice_index_or}
use Rattle.dexstr.proofs.Forms.{shape}
use Rattle.dexstr.specs.internal.Runs.{last_bytes, IsRun, AreBlocks, AreLatest}
use Rattle.dexstr.specs.declared.runs.Run.{Run}
use Rattle.std.proofs.lemmas.List.{get_or_append_left}
use lib.Seq.{get_or_at}

-- how many bytes the first unit has
form_len : (bytes : List ℕ) (u : ℕ) (rest : List ℕ) → Shape bytes u rest → (suc (length rest) ≤ length bytes) × (length bytes ≤ 3 + length rest)
form_len bytes u rest (One some small e) = (omega (arith, ap length e), omega (arith, ap length e))
form_len bytes u rest (Two which small e) = (omega (arith, ap length e), omega (arith, ap length e))
form_len bytes u rest (Three large small e) = (omega (arith, ap length e), omega (arith, ap length e))

length-last : (bytes : List ℕ) (n : ℕ) → n ≤ length bytes → length (last_bytes n bytes) ≡ n
length-last bytes n within = omega (arith, length-drop (length bytes - n) bytes, within)

-- what is left after some of the last bytes are the last of all
last_of_last : (bytes front rest : List ℕ) (n : ℕ) → n ≤ length bytes → last_bytes n bytes ≡ front ++ rest → rest ≡ last_bytes (length rest) bytes
last_of_last bytes front rest n within e =
    let m = length bytes - n in
    let whole : bytes ≡ (take m bytes ++ front) ++ rest = sym (take-append-drop m bytes) ∙ ap (λ (x : List ℕ). take m bytes ++ x) e ∙ sym (append_assoc (take m bytes) front rest) in
    let long : length (take m bytes ++ front) ≡ length bytes - length rest = omega (arith, ap length whole, length-append (take m bytes ++ front) rest) in
    sym (ap (drop (length bytes - length rest)) whole ∙ drop_at (take m bytes ++ front) rest (length bytes - length rest) long)

-- a unit before a run
pub record Before (bytes : List ℕ) (n : ℕ) (rest : List ℕ) : Type 0 where
  pub is_last : rest ≡ last_bytes (length rest) bytes
  pub some : length rest < n
  pub few : n ≤ 3 + length rest

module _ (bytes : List ℕ) (n u : ℕ) (rest : List ℕ) (within : n ≤ length bytes) (begins : BeginsWithUnit (last_bytes n bytes) u rest) where
  pub before : Before bytes n rest
  before =
      let lens = form_len (last_bytes n bytes) u rest (shape (last_bytes n bytes) u rest begins) in
      record { is_last = last_of_last bytes (form u) rest n within begins.parts; some = omega (arith, lens.0, length-last bytes n within); few = omega (arith, lens.1, length-last bytes n within) }

  pub run_more : (run : Run) → IsRun bytes (length rest) run → IsRun bytes n (record { count = run.count + 1; left = run.left })
  run_more run is =
      let after = is.after in
      record {
        after = record {
          us = u ∷ after.us;
          len = omega (arith, after.len);
          units = All-cons (λ v. v < 2 ^ 16) u after.us begins.unit after.units;
          parts = begins.parts ∙ ap (λ (x : List ℕ). form u ++ x) (before.is_last ∙ after.parts) ∙ sym (append_assoc (form u) (spelling after.us) (last_bytes run.left bytes)) ∙ ap (λ (x : List ℕ). x ++ last_bytes run.left bytes) (sym (flat_map-cons form u after.us));
          none = after.none;
        };
        room = omega (arith, is.room, before.some);
      }

  pub run_before : (runs : List Run) (d : Run) → AreLatest bytes n runs → IsRun bytes (length rest) (slice_index_or runs (n - length rest - 1) d)
  run_before runs d are =
      let at : n - (n - length rest - 1 + 1) ≡ length rest = omega (arith, before.some) in
      subst (λ (m : ℕ). IsRun bytes m (slice_index_or runs (n - length rest - 1) d)) at (are (n - length rest - 1) d (omega (arith, before.some, before.few)) (omega (arith, before.some)))

pub run_none : (bytes : List ℕ) (n : ℕ) → BeginsWithNone (last_bytes n bytes) → IsRun bytes n (record { count = 0; left = n })
run_none bytes n none = record { after = record { us = []; len = refl; units = λ k d lt. absurd (omega (arith, lt)); parts = refl; none = none }; room = omega arith }

-- ---- the latest runs, and the blocks of them

pub latest_next : (bytes : List ℕ) (n : ℕ) (runs : List Run) (z run : Run) → AreLatest bytes n runs → IsRun bytes n run → AreLatest bytes (n + 1) (run ∷ slice_index_or runs 0 z ∷ slice_index_or runs 1 z ∷ [])
latest_next bytes n runs z run are is zero d few before = let at : n + 1 - 1 ≡ n = omega arith in rw at is
latest_next bytes n runs z run are is (suc zero) d few before = let at : n + 1 - 2 ≡ n - 1 = omega arith in rw at (are 0 z (omega arith) (omega (arith, before)))
latest_next bytes n runs z run are is (suc (suc zero)) d few before = let at : n + 1 - 3 ≡ n - 2 = omega arith in rw at (are 1 z (omega arith) (omega (arith, before)))
latest_next bytes n runs z run are is (suc (suc (suc j))) d few before = absurd (omega (arith, few))

pub blocks_more : (bytes : List ℕ) (blocks : List (List Run)) (latest : List Run) (n : ℕ) → AreBlocks bytes blocks → AreLatest bytes n latest → 64 * length blocks + 3 ≡ n → AreBlocks bytes (blocks ++ latest ∷ [])
blocks_more bytes blocks latest n are is end = λ k d lt. elim (cases_lt k (length blocks)) [
  | inl before ↦ rw (get_or_append_left blocks (latest ∷ []) d k before) (are k d before)
  | inr after ↦
      let at : length blocks ≡ k = omega (arith, lt, after, length-append blocks (latest ∷ [])) in
      let end_at : 64 * k + 3 ≡ n = omega (arith, at, end) in
      rw (get_or_at blocks latest [] d k at, end_at) is
]
