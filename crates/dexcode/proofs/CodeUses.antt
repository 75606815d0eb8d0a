-- The symbols of a code item, part by part.
use Rattle.dexcode.proofs.Common.{◌≡◌, List, [], ◌∷◌, ◌++◌, Option, Some, None, IfSome, option_to_list, refl, sym, subst, All, FoldsTo, flat_map, append-nil, All-nil, All-append, All-head, All-tail, Use, uses_of, NumberedDebug, debug_uses, all_prefix, all_back, visited_both, NumberedItem, tries_uses, item_uses}

-- what holds of all that each member gives holds of all together
pub all_flat : {X : Type 0} (P : X → Type 0) (Q : Use → Type 0) (f : X → List Use) (xs : List X) → ((x : X) → P x → All Q (f x)) → All P xs → All Q (flat_map f xs)
all_flat P Q f [] step all = All-nil Q
all_flat P Q f (x ∷ xs) step all = All-append Q (f x) (flat_map f xs) (step x (All-head P x xs all)) (all_flat P Q f xs step (All-tail P x xs all))

-- those of the debug program, if there is one
abbrev pub optional_debug_uses : Option NumberedDebug → List Use
optional_debug_uses o = flat_map debug_uses (option_to_list o)

pub if_debug : (P : Use → Type 0) (o : Option NumberedDebug) → All P (optional_debug_uses o) → IfSome o (λ d. All P (debug_uses d))
if_debug P None all = tt
if_debug P (Some d) all = all_prefix P (debug_uses d) [] all

pub debug_part : (P : Use → Type 0) (o : Option NumberedDebug) (d : NumberedDebug) → All P (optional_debug_uses o) → o ≡ Some d → All P (debug_uses d)
debug_part P o d all e = subst (λ p. IfSome p (λ d. All P (debug_uses d))) e (if_debug P o all)

module _ (P : Use → Type 0) (c : NumberedItem) (all : All P (item_uses c)) where
  pub pieces_part : All P (uses_of c.body.pieces)
  pieces_part = all_prefix P (uses_of c.body.pieces) (tries_uses c.tries ++ optional_debug_uses c.debug) all

  others : All P (tries_uses c.tries ++ optional_debug_uses c.debug)
  others = all_back P (uses_of c.body.pieces) (tries_uses c.tries ++ optional_debug_uses c.debug) all

  pub tries_part : All P (tries_uses c.tries)
  tries_part = all_prefix P (tries_uses c.tries) (optional_debug_uses c.debug) others

  pub debugs_part : All P (optional_debug_uses c.debug)
  debugs_part = all_back P (tries_uses c.tries) (optional_debug_uses c.debug) others

-- ---- visits of the parts, one after the other

module _ {V : Type 0} (step : V → Use → V → Type 0) where
  no_debug_visited : (o : Option NumberedDebug) (a : V) → o ≡ None → FoldsTo step a (optional_debug_uses o) a
  no_debug_visited o a e = subst (λ p. FoldsTo step a (optional_debug_uses p) a) (sym e) refl

  some_debug_visited : (o : Option NumberedDebug) (d : NumberedDebug) (a b : V) → o ≡ Some d → FoldsTo step a (debug_uses d) b → FoldsTo step a (optional_debug_uses o) b
  some_debug_visited o d a b e h = subst (λ p. FoldsTo step a (optional_debug_uses p) b) (sym e) (subst (λ us. FoldsTo step a us b) (sym (append-nil (debug_uses d))) h)

  parts_visited : (c : NumberedItem) (a p q b : V) → FoldsTo step a (uses_of c.body.pieces) p → FoldsTo step p (tries_uses c.tries) q → FoldsTo step q (optional_debug_uses c.debug) b → FoldsTo step a (item_uses c) b
  parts_visited c a p q b pieces tries debug =
      visited_both step a (uses_of c.body.pieces) p (tries_uses c.tries ++ optional_debug_uses c.debug) b pieces
      (visited_both step p (tries_uses c.tries) q (optional_debug_uses c.debug) b tries debug)

  pub visited_without_debug : (c : NumberedItem) (a p b : V) → FoldsTo step a (uses_of c.body.pieces) p → FoldsTo step p (tries_uses c.tries) b → c.debug ≡ None → FoldsTo step a (item_uses c) b
  visited_without_debug c a p b pieces tries e = parts_visited c a p b b pieces tries (no_debug_visited c.debug b e)

  pub visited_with_debug : (c : NumberedItem) (d : NumberedDebug) (a p q b : V) → FoldsTo step a (uses_of c.body.pieces) p → FoldsTo step p (tries_uses c.tries) q → c.debug ≡ Some d → FoldsTo step q (debug_uses d) b → FoldsTo step a (item_uses c) b
  visited_with_debug c d a p q b pieces tries e debug = parts_visited c a p q b pieces tries (some_debug_visited c.debug d q b e debug)
