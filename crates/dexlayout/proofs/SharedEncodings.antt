-- The encodings of debug programs that methods are known to share.
use Rattle.dexlayout.proofs.Common.{◌≡◌, ℕ, ◌+◌, ◌<◌, ◌++◌, ◌∷◌, List, [], Option, None, length, take, get_or, ap, ◌∙◌, arith, option_map, get_or-append-add, get_or-map, get_or-take, length-map, HaveItems, NumberedMethod, same_bytes, debug_encoding, debug_encodings}
use Rattle.std.proofs.lemmas.List.{get_or_default, length-take}
use Rattle.dexdebug.specs.Debug.{numbered_debug_bytes}
use Rattle.dexmembers.specs.SharedDebugs.{AreSameBefore, debug_of}
use Rattle.dexlayout.proofs.SharedUses.{uses_next}

-- used instead of a method that is missing
abbrev pub no_method : NumberedMethod
no_method = record { number = 0; flags = 0; code = None; annotations = []; parameter_annotations = [] }

-- there is a number for each use
pub uses_before : {uses : List (Option (List ℕ))} {written : List (List ℕ)} {numbers : List (Option ℕ)} → HaveItems same_bytes uses written numbers → length numbers ≡ length uses
uses_before {uses} h = ap length h.numbers_are ∙ length-map uses _

module _ (methods : List NumberedMethod) (places : List ℕ) (same : AreSameBefore debug_of methods places) (uses : List (Option (List ℕ))) (i : ℕ) (lt : i < length methods) where
  -- what an earlier method has, whose debug program is the same
  pub earlier_use : (before : ℕ) → before ≡ length uses → get_or places i 0 < i → get_or (uses ++ debug_encodings (take i methods)) (before + get_or places i 0) None ≡ debug_encoding (get_or methods i no_method)
  earlier_use before is less =
      let place = get_or places i 0 in
      ap (λ (n : ℕ). get_or (uses ++ debug_encodings (take i methods)) (n + place) None) is
      ∙ get_or-append-add uses (debug_encodings (take i methods)) place None
      ∙ get_or-map debug_encoding (take i methods) place no_method None (omega (arith, less, lt, length-take i methods))
      ∙ ap debug_encoding (get_or-take i methods place no_method less)
      ∙ ap (option_map numbered_debug_bytes) (same.same i no_method lt)

  -- with it there is one use more
  pub uses_more : (u : Option (List ℕ)) → u ≡ debug_encoding (get_or methods i no_method) → (uses ++ debug_encodings (take i methods)) ++ u ∷ [] ≡ uses ++ debug_encodings (take (i + 1) methods)
  uses_more u is =
      ap (λ v. (uses ++ debug_encodings (take i methods)) ++ v ∷ []) is
      ∙ uses_next debug_encoding uses methods i (get_or methods i no_method) lt (get_or_default methods i (get_or methods i no_method) no_method lt)
