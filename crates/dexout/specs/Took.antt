-- Bytes that a writer has taken.
use Rattle.std.proofs.Common.{◌≡◌, ℕ, ◌+◌, ◌≤◌, List, ◌++◌, [], length, take, min, inl, inr, refl, sym, ◌∙◌, ap}
use Rattle.std.proofs.Common.{append_assoc, arith}
use Rattle.std.proofs.lemmas.Bool.{cases_lt}
use Rattle.std.proofs.lemmas.List.{append-nil, take_all, take-append-le, length-take}
use Rattle.std.proofs.Math.Seq.{take-append-add}
use Rattle.dexout.specs.declared.writer.Writer.{Writer}

-- it is the same writer, and has taken x
pub record Took {W : Type 0} (reports : W → Type 0) (taken : W → List ℕ) (x : List ℕ) (old new : Writer W) :
    Type 0 where
  pub same : new.sink.ghost_name ≡ old.sink.ghost_name
  pub all : reports old.sink.now → reports new.sink.now × (taken new.sink.now ≡ taken old.sink.now ++ x)

-- it is the same writer, and has taken a prefix of x
pub record TookPrefix {W : Type 0} (reports : W → Type 0) (taken : W → List ℕ) (x : List ℕ) (old new : Writer W) :
    Type 0 where
  pub same : new.sink.ghost_name ≡ old.sink.ghost_name
  pub some : reports old.sink.now → (n : ℕ) × (taken new.sink.now ≡ taken old.sink.now ++ take n x)

-- as much of a list as of its prefix
pub take_own : (n : ℕ) (m : List ℕ) → take (length (take n m)) m ≡ take n m
take_own n m = ap (λ k. take k m) (length-take n m) ∙ elim (cases_lt n (length m)) [
  | inl less ↦ ap (λ k. take k m) (let e : min n (length m) ≡ n = omega arith in e)
  | inr gt ↦ ap (λ k. take k m) (let e : min n (length m) ≡ length m = omega arith in e) ∙ take_all (length m) m
      (omega arith) ∙ sym (take_all n m (omega arith))
]

-- a prefix of a prefix and more
pub prefix_of : (n : ℕ) (m y : List ℕ) → (k : ℕ) × (take k (m ++ y) ≡ take n m)
prefix_of n m y =
    let le : length (take n m) ≤ length m = omega (arith, length-take n m) in
    (length (take n m), take-append-le (length (take n m)) m y le ∙ take_own n m)

module _ {W : Type 0} (reports : W → Type 0) (taken : W → List ℕ) where
  pub took_nothing : (a : Writer W) → Took reports taken [] a a
  took_nothing a = record { same = refl; all = λ t. (t, sym (append-nil (taken a.sink.now))) }

  pub took_both : (x y : List ℕ) (a b c : Writer W) → Took reports taken x a b → Took reports taken y b c
      → Took reports taken (x ++ y) a c
  took_both x y a b c h g = record {
    same = g.same ∙ h.same;
    all = λ t.
        let one = h.all t in
        let two = g.all one.0 in
        (two.0, two.1 ∙ ap (λ bs. bs ++ y) one.1 ∙ append_assoc (taken a.sink.now) x y);
  }

  pub took_whole : (x : List ℕ) (a b : Writer W) → Took reports taken x a b → TookPrefix reports taken x a b
  took_whole x a b h =
      record {
        same = h.same;
        some =
            λ t. (length x, (h.all t).1 ∙ ap (λ z. taken a.sink.now ++ z) (sym (take_all (length x) x (omega arith))));
      }

  pub took_more : (x y : List ℕ) (a b : Writer W) → TookPrefix reports taken x a b
      → TookPrefix reports taken (x ++ y) a b
  took_more x y a b h = record {
    same = h.same;
    some = λ t.
        let one = h.some t in
        let k = prefix_of one.0 x y in
        (k.0, one.1 ∙ ap (λ z. taken a.sink.now ++ z) (sym k.1));
  }

  pub took_after : (x y : List ℕ) (a b c : Writer W) → Took reports taken x a b → TookPrefix reports taken y b c
      → TookPrefix reports taken (x ++ y) a c
  took_after x y a b c h g = record {
    same = g.same ∙ h.same;
    some = λ t. let one = h.all t in let two = g.some one.0 in (
      length x
          + two.0,
      two.1 ∙ ap (λ bs. bs ++ take two.0 y) one.1 ∙ append_assoc (taken a.sink.now) x (take two.0 y) ∙ ap
          (λ z. taken a.sink.now ++ z) (sym (take-append-add x y two.0)),
    );
  }
