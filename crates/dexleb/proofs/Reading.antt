-- When a result is the first number.
use Rattle.std.proofs.Common.{◌≡◌, ◌↔◌, ℕ, ◌-◌, ◌≤◌, List, length, take, drop, Option, Some, None, Result, Ok, Err, refl, ap, sym, subst, ◌∙◌, arith, length-take, length-drop, take_all}
use Rattle.std.specs.Option.{SomeIff}
use Rattle.dexleb.specs.declared.read.LebFault.{LebFault}
use Rattle.dexleb.specs.declared.read.LebFault.TheVariants.{Short, Range}
use Rattle.dexspec.specs.Numbers.{BeginsWith, Spells, IsUleb128, IsUleb128p1, plus_one}
use Rattle.dexleb.specs.Leb.{IsCutOff}
use Rattle.dexspec.proofs.numbers.Chains.{chain_same, no_chain}
use Rattle.dexspec.proofs.numbers.Spellings.{same_number, not_cut_off, same_plus_one}
use Rattle.dexleb.specs.Leb.{IsFirst, Reads}

-- a fault is right if the bytes begin with no number
reads_fault : {V : Type 0} (Says : List ℕ → V → Type 0) (bytes : List ℕ) (e : LebFault)
    → ((e ≡ Short) ↔ IsCutOff bytes) → ((v : V) (n : ℕ) → ¬ BeginsWith Says bytes v n) → Reads Says bytes (Err e)
reads_fault Says bytes Short short none = record {
  found = tt;
  only = λ v n begins. absurd (none v n begins);
  short = (λ e. short.0 refl, λ cut. refl);
  range = (λ e. absurd cc, λ h. absurd (h.0 (short.0 refl)));
}
reads_fault Says bytes Range short none = record {
  found = tt;
  only = λ v n begins. absurd (none v n begins);
  short = (λ e. absurd cc, λ cut. ap Err (short.1 cut));
  range = (λ e. (λ cut. absurd (let h = short.1 cut in cc), none), λ h. refl);
}

-- a value is right if the bytes begin with it and with no other
reads_value : {V : Type 0} (Says : List ℕ → V → Type 0) (bytes : List ℕ) (v : V) (n : ℕ)
    → ¬ IsCutOff bytes → BeginsWith Says bytes v n → ((w : V) (m : ℕ) → BeginsWith Says bytes w m → (w ≡ v) × (m ≡ n)) → Reads Says bytes (Ok (v, n))
reads_value {V} Says bytes v n whole begins only = record {
  found = begins;
  only = λ w m other. let e = only w m other in cc;
  short = (λ e. absurd cc, λ cut. absurd (whole cut));
  range = (λ e. absurd cc, λ h. absurd (h.1 v n begins));
}

module _ {V : Type 0} (number : List ℕ → V) (InRange : V → Type 0) where
  -- the first number is read if it is in range
  pub number_in_range : (bytes : List ℕ) (sum n : ℕ) (v : V) → IsFirst bytes sum n → number (take n bytes) ≡ v → InRange v → Reads (Spells number InRange) bytes (Ok (v, n))
  number_in_range bytes sum n v first e fits =
      let begins : BeginsWith (Spells number InRange) bytes v n = record { within = first.within; spelled = record { chain = first.chain; few = omega (arith, length-take n bytes, first.few); value = e; in_range = fits } } in
      reads_value (Spells number InRange) bytes v n (λ cut. not_cut_off number InRange bytes v n begins cut.high) begins (λ w m other. same_number number InRange bytes v w n m begins other)

  -- and is refused if it is not
  pub number_out_of_range : (bytes : List ℕ) (sum n : ℕ) → IsFirst bytes sum n → ¬ InRange (number (take n bytes)) → Reads (Spells number InRange) bytes (Err Range)
  number_out_of_range bytes sum n first wide =
      reads_fault (Spells number InRange) bytes Range ((λ e. absurd cc), (λ cut. absurd (no_chain bytes n first.within cut.high first.chain)))
      (λ v m begins.
      let e : m ≡ n = chain_same bytes m n begins.spelled.chain first.chain begins.within first.within in
      wide (subst InRange (sym begins.spelled.value ∙ ap (λ k. number (take k bytes)) e) begins.spelled.in_range))

-- all bytes from an offset on
pub from_place : (b : List ℕ) (at : ℕ) → take (length b - at) (drop at b) ≡ drop at b
from_place b at = take_all (length b - at) (drop at b) (omega (arith, length-drop at b))

-- ---- the number plus one

-- a value as a result
abbrev done : {A : Type 0} → A → Result A LebFault
done x = Ok x

-- equal results have equal values
ok_is : {A : Type 0} (x y : A) → done x ≡ done y → x ≡ y
ok_is x y e = cc

-- a reader of a number also reads the number plus one
pub reads_p1 : (bytes : List ℕ) (v : Option ℕ) (n len : ℕ) → plus_one v ≡ n → Reads IsUleb128 bytes (Ok (n, len)) → Reads IsUleb128p1 bytes (Ok (v, len))
reads_p1 bytes v n len is reads =
    let here : BeginsWith IsUleb128 bytes (plus_one v) len = subst (λ (k : ℕ). BeginsWith IsUleb128 bytes k len) (sym is) reads.found in
    let whole : ¬ IsCutOff bytes = λ cut. let e = reads.short.1 cut in absurd cc in
    reads_value IsUleb128p1 bytes v len whole (record { within = here.within; spelled = here.spelled })
    (λ w m begins.
    let e = reads.only (plus_one w) m (record { within = begins.within; spelled = begins.spelled }) in
    let p = ok_is (n, len) (plus_one w, m) e in
    let number : plus_one w ≡ plus_one v = ap (λ (x : ℕ × ℕ). x.0) (sym p) ∙ sym is in
    (same_plus_one w v number, ap (λ (x : ℕ × ℕ). x.1) (sym p)))

-- if the number is at least 1, one less plus one is the number
pub plus_one_is : (v : Option ℕ) (n : ℕ) → SomeIff v (1 ≤ n) (n - 1) → plus_one v ≡ n
plus_one_is None n none = omega arith
plus_one_is (Some v) n some = omega arith
