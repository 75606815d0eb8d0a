use Rattle.dexexamples.proofs.Common.{◌≡◌, ◌<◌, ℕ, List, [], ◌∷◌, length, true, refl, arith, list_all, AllPass-from_list_all, opcode_of, opcode_runs, Cut, AreCut, IsCode, piece_size, has_right_targets}
use Rattle.dexexamples.specs.{cut, packed, sparse, array_data, invoke}
use Rattle.dexexamples.proofs.code.code_is_cut.Goals as goal

-- code, by a test of its targets
code_by : (us : List ℕ) (cs : List Cut) → 0 < length us → AreCut 0 us cs [] → list_all (has_right_targets us cs) cs ≡ true → IsCode us cs
code_by us cs some is right = record { some = some; cut = is; targets = AllPass-from_list_all (has_right_targets us cs) cs right }

pub returns-clause-packed_switch : goal.returns-clause-packed_switch
unfolding piece_size has_right_targets opcode_of opcode_runs
returns-clause-packed_switch c = code_by packed (cut 0 3 ∷ cut 3 1 ∷ cut 4 6 ∷ []) (omega arith) (refl, refl, (refl, refl, (refl, refl, refl))) refl

pub returns-clause-sparse_switch : goal.returns-clause-sparse_switch
unfolding piece_size has_right_targets opcode_of opcode_runs
returns-clause-sparse_switch c = code_by sparse (cut 0 3 ∷ cut 3 1 ∷ cut 4 10 ∷ []) (omega arith) (refl, refl, (refl, refl, (refl, refl, refl))) refl

pub returns-clause-array : goal.returns-clause-array
unfolding piece_size has_right_targets opcode_of opcode_runs
returns-clause-array c = code_by array_data (cut 0 3 ∷ cut 3 1 ∷ cut 4 5 ∷ []) (omega arith) (refl, refl, (refl, refl, (refl, refl, refl))) refl

pub returns-clause-invoke : goal.returns-clause-invoke
unfolding piece_size has_right_targets opcode_of opcode_runs
returns-clause-invoke c = code_by invoke (cut 0 3 ∷ []) (omega arith) (refl, refl, refl) refl
