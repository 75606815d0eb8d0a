-- The reasons of devices, one after the other.
use Rattle.std.proofs.Common.{ℕ, List, [], ◌∷◌, ◌++◌, Option, Some, None, refl, sym, subst}
use Rattle.dexcmd.specs.declared.device_error.DeviceError.{DeviceError}
use Rattle.dexcmd.specs.Explaining.{AreTextsOf, IsReasonAdded}

-- no error more
texts_same : (errors : List (Option DeviceError)) (texts : List (List ℕ)) → AreTextsOf errors texts → AreTextsOf (errors ++ None ∷ []) texts
texts_same [] texts h = h
texts_same (None ∷ errors) texts h = texts_same errors texts h
texts_same (Some error ∷ errors) [] h = absurd h
texts_same (Some error ∷ errors) (text ∷ texts) h = texts_same errors texts h

-- an error more, with its text
texts_push : (errors : List (Option DeviceError)) (texts : List (List ℕ)) (last : DeviceError) (reason : List ℕ) → AreTextsOf errors texts → AreTextsOf (errors ++ Some last ∷ []) (texts ++ reason ∷ [])
texts_push [] texts last reason h = subst (λ l. AreTextsOf (Some last ∷ []) (l ++ reason ∷ [])) (sym h) refl
texts_push (None ∷ errors) texts last reason h = texts_push errors texts last reason h
texts_push (Some error ∷ errors) [] last reason h = absurd h
texts_push (Some error ∷ errors) (text ∷ texts) last reason h = texts_push errors texts last reason h

-- the reason of one device more
pub texts_more : (errors : List (Option DeviceError)) (old new : List (List ℕ)) (last : Option DeviceError) → AreTextsOf errors old → IsReasonAdded last old new → AreTextsOf (errors ++ last ∷ []) new
texts_more errors old new None h added = subst (AreTextsOf (errors ++ None ∷ [])) (sym added) (texts_same errors old h)
texts_more errors old new (Some last) h added = subst (AreTextsOf (errors ++ Some last ∷ [])) (sym added.1) (texts_push errors old last added.0 h)
