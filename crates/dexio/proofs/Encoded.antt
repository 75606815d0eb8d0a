-- The encodings of the items of a list, one after the other.
use Rattle.dexio.proofs.Common.{◌≡◌, ℕ, ◌+◌, ◌-◌, ◌^◌, ◌<◌, ◌≤◌, min, Ok, refl, arith, List, [], ◌∷◌, ◌++◌, length, take, get_or, ap, sym, ◌∙◌, subst, flat_map, append-nil, take_all, take_more, HasRoomFor, Pushes}
use Rattle.std.specs.Global.{Vec}
use Rattle.std.specs.Prelude.{vec_len, vec_capacity}
use Rattle.dexspec.specs.internal.Writing.{Puts}
use Rattle.std.proofs.lemmas.Grind.{flat_map-append}

module _ {O X : Type 0} (gives : List ℕ → O → O → Type 0) (both : (x y : List ℕ) (a b c : O) → gives x a b → gives y b c → gives (x ++ y) a c) (f : X → List ℕ) where
  -- one more of a list
  pub given_more : (xs : List X) (i : ℕ) (d : X) (a b c : O) → i < length xs → gives (flat_map f (take i xs)) a b → gives (f (get_or xs i d)) b c → gives (flat_map f (take (i + 1) xs)) a c
  given_more xs i d a b c lt before more =
      let x = get_or xs i d in
      let parts : flat_map f (take (i + 1) xs) ≡ flat_map f (take i xs) ++ f x =
      ap (flat_map f) (take_more xs i d lt) ∙ flat_map-append f (take i xs) (x ∷ []) ∙ ap (λ ys. flat_map f (take i xs) ++ ys) (append-nil (f x)) in
      subst (λ bs. gives bs a c) (sym parts) (both (flat_map f (take i xs)) (f x) a b c before more)

  pub given_all : (xs : List X) (i : ℕ) (a b : O) → length xs ≤ i → gives (flat_map f (take i xs)) a b → gives (flat_map f xs) a b
  given_all xs i a b end h = subst (λ ys. gives (flat_map f ys) a b) (take_all i xs end) h

module _ {O : Type 0} (gives : List ℕ → O → O → Type 0) (both : (x y : List ℕ) (a b c : O) → gives x a b → gives y b c → gives (x ++ y) a c) where
  -- bytes, and then more
  pub then_given : {x y : List ℕ} {a b c : O} → gives x a b → gives y b c → gives (x ++ y) a c
  then_given {x} {y} {a} {b} {c} first second = both x y a b c first second

  -- nine parts
  pub nine_given : {x1 x2 x3 x4 x5 x6 x7 x8 x9 : List ℕ} {a b c d e f g h i j : O} → gives x1 a b → gives x2 b c → gives x3 c d → gives x4 d e → gives x5 e f → gives x6 f g → gives x7 g h → gives x8 h i → gives x9 i j → gives (x1 ++ (x2 ++ (x3 ++ (x4 ++ (x5 ++ (x6 ++ (x7 ++ (x8 ++ x9)))))))) a j
  nine_given e1 e2 e3 e4 e5 e6 e7 e8 e9 = then_given e1 (then_given e2 (then_given e3 (then_given e4 (then_given e5 (then_given e6 (then_given e7 (then_given e8 e9)))))))

-- What completes the rest after `now` completes the whole after `start`.
pub record Completes {O : Type 0} (gives : List ℕ → O → O → Type 0) (rest : List ℕ) (now : O) (whole : List ℕ) (start : O) : Type 0 where
  pub on : (end : O) → gives rest now end → gives whole start end

module _ {O : Type 0} (gives : List ℕ → O → O → Type 0) where
  -- at the start all is left
  pub completes_none : (whole : List ℕ) (start : O) → Completes gives whole start whole start
  completes_none whole start = record { on = λ end all. all }

  -- nothing is left
  pub completes_all : (nothing : (a : O) → gives [] a a) (rest whole : List ℕ) (start now : O) → rest ≡ [] → Completes gives rest now whole start → gives whole start now
  completes_all nothing rest whole start now none h = h.on now (subst (λ bs. gives bs now now) (sym none) (nothing now))

  -- one part more
  pub completes_more : (both : (x y : List ℕ) (a b c : O) → gives x a b → gives y b c → gives (x ++ y) a c) (x rest left whole : List ℕ) (start now next : O) → left ≡ x ++ rest → Completes gives left now whole start → gives x now next → Completes gives rest next whole start
  completes_more both x rest left whole start now next parts h part =
      record { on = λ end more. h.on end (subst (λ bs. gives bs now end) (sym parts) (both x rest now next end part more)) }

-- bytes after the vector was given room for them
pub encoded_put : {T E : Type 0} (item : List ℕ) (n : ℕ) (a b c : Vec ℕ) (t : T) → n ≡ min (2 ^ 64 - 1) (length item) → b.items ≡ a.items → vec_len b ≡ vec_len a → vec_len b + n ≤ vec_capacity b → vec_capacity a ≤ vec_capacity b
    → (HasRoomFor item b → Pushes item b c) → Puts {T = T} {E = E} item a c (Ok t)
encoded_put item n a b c t is items len room more push =
    let pushes = push (omega (arith, is, room, b.small)) in
    record {
      ok = pushes.items ∙ ap (λ bs. bs ++ item) items;
      len = omega (arith, pushes.len, len);
      err = tt;
      room = λ _. refl;
      capacity = omega (arith, pushes.capacity, more);
    }
