-- Bytes that are buffered, and flushed to a target.
use Rattle.std.proofs.Common.{◌≡◌, ℕ, ◌≤◌, List, [], ◌++◌, Bool, true, false, Result, Ok, Err, sym, subst, append_assoc}
use Rattle.std.specs.Prelude.{vec_capacity}
use Rattle.std.proofs.lemmas.List.{append-nil}
use Rattle.dexout.specs.declared.faults.StoreFault.{StoreFault}
use Rattle.dexout.specs.declared.faults.StoreFault.TheVariants.{Io}
use Rattle.dexout.specs.declared.output.Out.{Out}

-- from the start on the target has taken what, with that in the buffer, makes m
pub record HasMade {T : Type 0} (gives : List ℕ → T → T → Type 0) (start : T) (out : Out T) (m : List ℕ) : Type 0 where
  pub gone : List ℕ
  pub given : gives gone start out.target
  pub joined : gone ++ out.buffer.items ≡ m

-- m was written from the start on; a target that has failed has a prefix of it
pub record HasWritten {T : Type 0} (gives gives_prefix : List ℕ → T → T → Type 0) (start : T) (out : Out T)
    (m : List ℕ) : Type 0 where
  pub made : out.failed ≡ false → HasMade gives start out m
  pub prefix : out.failed ≡ true → gives_prefix m start out.target

-- what is returned at the end
abbrev pub result_of : Bool → Result (Unit {0}) StoreFault
result_of false = Ok tt
result_of true = Err Io

-- there is room for a header where nothing is buffered
abbrev pub HasRoom : {T : Type 0} → Out T → Type 0
HasRoom out = 112 ≤ vec_capacity out.buffer

-- x was written, where there is room; it is known whether the target has failed
pub record Adds {T : Type 0} (gives gives_prefix : List ℕ → T → T → Type 0) (has_failed : T → Bool) (x : List ℕ)
    (old new : Out T) : Type 0 where
  pub written : HasRoom old → (start : T) (m : List ℕ) → HasWritten gives gives_prefix start old m
      → HasWritten gives gives_prefix start new (m ++ x)
  pub reports : has_failed old.target ≡ old.failed → has_failed new.target ≡ new.failed
  pub room : HasRoom old → HasRoom new

module _ {T : Type 0} (gives gives_prefix : List ℕ → T → T → Type 0) (has_failed : T → Bool) where
  pub adds_nothing : (a : Out T) → Adds gives gives_prefix has_failed [] a a
  adds_nothing a =
      record {
        written = λ r start m h. subst (HasWritten gives gives_prefix start a) (sym (append-nil m)) h;
        reports = λ t. t;
        room = λ r. r;
      }

  pub adds_both : (x y : List ℕ) (a b c : Out T) → Adds gives gives_prefix has_failed x a b
      → Adds gives gives_prefix has_failed y b c → Adds gives gives_prefix has_failed (x ++ y) a c
  adds_both x y a b c h g = record {
    written =
        λ r start m is. subst (HasWritten gives gives_prefix start c) (append_assoc m x y)
        (g.written (h.room r) start (m ++ x) (h.written r start m is));
    reports = λ t. g.reports (h.reports t);
    room = λ r. g.room (h.room r);
  }
