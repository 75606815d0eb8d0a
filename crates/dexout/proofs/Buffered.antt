-- What one write does to the buffer, and to the target.
use Rattle.dexout.proofs.Common.{◌≡◌, ℕ, ◌≤◌, List, [], ◌++◌, Bool, true, false, Result, Ok, Err, OnOk, OnErr, sym, subst, ◌∙◌, ap, append_assoc, arith, is_err, vec_capacity, append-nil, Pushes, HasRoomFor, Adds, HasRoom, adds_both}
use Rattle.std.specs.Global.{Vec}
use Rattle.dexout.specs.declared.output.Out.{Out}

module _ {T : Type 0} {gives gives_prefix : List ℕ → T → T → Type 0} {has_failed : T → Bool} where
  -- bytes were added after what is buffered
  pub buffered : (more : (x y : List ℕ) (s t : T) → gives_prefix x s t → gives_prefix (x ++ y) s t) (a : Out T) (w : Vec ℕ) (x : List ℕ) → (HasRoom a → HasRoomFor x a.buffer) → (HasRoomFor x a.buffer → Pushes x a.buffer w)
      → Adds gives gives_prefix has_failed x a (record { buffer = w; failed = a.failed; target = a.target })
  buffered more a w x room push = record {
    written = λ r start m h. let p = push (room r) in record {
      made = λ e. let k = h.made e in record {
        gone = k.gone;
        given = k.given;
        joined = ap (λ z. k.gone ++ z) p.items ∙ sym (append_assoc k.gone a.buffer.items x) ∙ ap (λ z. z ++ x) k.joined;
      };
      prefix = λ f. more m x start a.target (h.prefix f);
    };
    reports = λ t. t;
    room = λ r. let p = push (room r) in let enough : 112 ≤ vec_capacity a.buffer = r in omega (arith, p.capacity, enough);
  }

  -- after a flush, if one was due
  pub flushed_first : (more : (x y : List ℕ) (s t : T) → gives_prefix x s t → gives_prefix (x ++ y) s t) (a b : Out T) (w : Vec ℕ) (x : List ℕ) → Adds gives gives_prefix has_failed [] a b → (HasRoom b → HasRoomFor x b.buffer) → (HasRoomFor x b.buffer → Pushes x b.buffer w)
      → Adds gives gives_prefix has_failed x a (record { buffer = w; failed = b.failed; target = b.target })
  flushed_first more a b w x first room push = adds_both gives gives_prefix has_failed [] x a b (record { buffer = w; failed = b.failed; target = b.target }) first (buffered more b w x room push)

  -- the target has failed: what is buffered is dropped, and no bytes are written
  pub dropped : (more : (x y : List ℕ) (s t : T) → gives_prefix x s t → gives_prefix (x ++ y) s t) (a : Out T) (w : Vec ℕ) (x : List ℕ) → a.failed ≡ true → vec_capacity w ≡ vec_capacity a.buffer → Adds gives gives_prefix has_failed x a (record { buffer = w; failed = a.failed; target = a.target })
  dropped more a w x fails same = record {
    written = λ r start m h. record { made = λ e. absurd (let never : true ≡ false = sym fails ∙ e in cc); prefix = λ f. more m x start a.target (h.prefix f) };
    reports = λ t. t;
    room = λ r. let enough : 112 ≤ vec_capacity a.buffer = r in omega (arith, same, enough);
  }

  -- what is buffered and bytes after it were written to the target, which may have failed
  pub flushed : {E : Type 0} (both : (x y : List ℕ) (p q r : T) → gives x p q → gives y q r → gives (x ++ y) p r) (after : (x y : List ℕ) (p q r : T) → gives x p q → gives_prefix y q r → gives_prefix (x ++ y) p r)
      (a : Out T) (t : T) (w : Vec ℕ) (x y : List ℕ) (r : Result (Unit {0}) E) (failed : Bool) → a.buffer.items ++ x ≡ y → a.failed ≡ false → failed ≡ is_err r
      → OnOk r (has_failed t ≡ false) → OnErr r (has_failed t ≡ true) → OnOk r (gives y a.target t) → OnErr r (gives_prefix y a.target t)
      → w.items ≡ [] → vec_capacity w ≡ vec_capacity a.buffer → Adds gives gives_prefix has_failed x a (record { buffer = w; failed = failed; target = t })
  flushed both after a t w x y (Ok u) failed all fine is works fails given prefix empty same = record {
    written = λ r start m h. record {
      made = λ e. let k = h.made fine in record {
        gone = k.gone ++ y;
        given = both k.gone y start a.target t k.given given;
        joined = ap (λ z. (k.gone ++ y) ++ z) empty ∙ append-nil (k.gone ++ y) ∙ ap (λ z. k.gone ++ z) (sym all) ∙ sym (append_assoc k.gone a.buffer.items x) ∙ ap (λ z. z ++ x) k.joined;
      };
      prefix = λ f. absurd (let never : false ≡ true = sym is ∙ f in cc);
    };
    reports = λ s. works ∙ sym is;
    room = λ r. let enough : 112 ≤ vec_capacity a.buffer = r in omega (arith, same, enough);
  }
  flushed both after a t w x y (Err e) failed all fine is works fails given prefix empty same = record {
    written = λ r start m h. record {
      made = λ f. absurd (let never : true ≡ false = sym is ∙ f in cc);
      prefix = λ f. let k = h.made fine in subst (λ z. gives_prefix z start t) (ap (λ z. k.gone ++ z) (sym all) ∙ sym (append_assoc k.gone a.buffer.items x) ∙ ap (λ z. z ++ x) k.joined) (after k.gone y start a.target t k.given prefix);
    };
    reports = λ s. fails ∙ sym is;
    room = λ r. let enough : 112 ≤ vec_capacity a.buffer = r in omega (arith, same, enough);
  }
