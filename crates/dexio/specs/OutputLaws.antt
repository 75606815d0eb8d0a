-- The laws of the outputs: bytes are written one after the other.
use Rattle.std.proofs.Common.{◌≡◌, ℕ, ◌+◌, ◌-◌, ◌^◌, ◌<◌, min, List, [], ◌∷◌, ◌++◌, length, Result, Ok, Err, sym, ◌∙◌}
use Rattle.std.proofs.Common.{ap, arith, append_assoc, length-append, lt-ltb, refl}
use Rattle.std.specs.Global.{Vec}
use Rattle.std.proofs.lemmas.List.{append-nil}
use Rattle.dexspec.specs.Numbers.{uleb128}
use Rattle.dexspec.specs.internal.Writing.{Puts}
use Rattle.dexio.specs.Pushing.{Pushes, HasRoomFor}

pub counted_nothing : (a : ℕ) → a < 2 ^ 64 → a ≡ min (2 ^ 64 - 1) (a + 0)
counted_nothing a small = omega arith

pub counted_both : (x y : List ℕ) (a b c : ℕ) → (a < 2 ^ 64 → b ≡ min (2 ^ 64 - 1) (a + length x))
    → (b < 2 ^ 64 → c ≡ min (2 ^ 64 - 1) (b + length y)) → a < 2 ^ 64 → c ≡ min (2 ^ 64 - 1) (a + length (x ++ y))
counted_both x y a b c h g small =
    let first = h small in
    let second = g (omega (arith, first)) in
    omega (arith, length-append x y, first, second)

pub pushed_nothing : (a : Vec ℕ) → HasRoomFor [] a → Pushes [] a a
pushed_nothing a room = record { items = sym (append-nil a.items); len = omega arith; capacity = omega arith }

pub pushed_both : (x y : List ℕ) (a b c : Vec ℕ) → (HasRoomFor x a → Pushes x a b) → (HasRoomFor y b → Pushes y b c)
    → HasRoomFor (x ++ y) a → Pushes (x ++ y) a c
pushed_both x y a b c h g room =
    let first = h (omega (arith, room, length-append x y)) in
    let second = g (omega (arith, room, length-append x y, first.len, first.capacity)) in
    record {
      items = second.items ∙ ap (λ bs. bs ++ y) first.items ∙ append_assoc a.items x y;
      len = omega (arith, first.len, second.len, length-append x y);
      capacity = omega (arith, first.capacity, second.capacity);
    }

-- a call that appends and may fail, where there is room
pub puts_pushes : {T E : Type 0} (x : List ℕ) (a b : Vec ℕ) (r : Result T E) → Puts x a b r → HasRoomFor x a
    → Pushes x a b
puts_pushes x a b (Ok t) h room = record { items = h.ok; len = h.len; capacity = h.capacity }
puts_pushes x a b (Err e) h room = let ok = h.room room in absurd cc

-- a number of seven bits has one byte
pub one_byte : (v : ℕ) → v < 0x80 → uleb128 v ≡ v ∷ []
one_byte v small = rw (lt-ltb v 0x80 small) refl
