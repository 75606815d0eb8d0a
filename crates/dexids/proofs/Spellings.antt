-- Units that are the letters of numbers, one number after the other.
use Rattle.dexids.proofs.Common.{◌≡◌, ◌≢◌, ◌↔◌, ℕ, ◌+◌, ◌<◌, Bool, true, false, List, ◌∷◌, ◌-◌, ◌≤◌, not, length, get_or, take, drop, slice_index, ap, refl, subst, sym, ◌∙◌, arith, IsTrue, All, false≢true, drop_more, drop_all, take-map, drop-map, length-map, All-nil, All-cons, All-head, All-tail, All-map, all_seen, Span, span_of, HasSpan, letter_in, letters_in, IsNotVoid, IsLetter, SpellNumbers, IsSpelled, AreThese}

module _ (letters : List ℕ) where
  spell_first : (u n : ℕ) (us ns : List ℕ) → SpellNumbers letters (u ∷ us) (n ∷ ns) → IsLetter letters n u
  spell_first u n us ns s = record { unit_is = ap (λ (l : List ℕ). get_or l 0 0) s.units_are; no_void = All-head (λ m. letter_in letters m ≢ 0x56) n ns s.no_void }

  spell_rest : (u n : ℕ) (us ns : List ℕ) → SpellNumbers letters (u ∷ us) (n ∷ ns) → SpellNumbers letters us ns
  spell_rest u n us ns s = record { units_are = ap (λ (l : List ℕ). drop 1 l) s.units_are; no_void = All-tail (λ m. letter_in letters m ≢ 0x56) n ns s.no_void }

  spell_both : (u n : ℕ) (us ns : List ℕ) → IsLetter letters n u → SpellNumbers letters us ns → SpellNumbers letters (u ∷ us) (n ∷ ns)
  spell_both u n us ns is s = record { units_are = λ k. is.unit_is k ∷ s.units_are k; no_void = All-cons (λ m. letter_in letters m ≢ 0x56) n ns is.no_void s.no_void }

  module _ (units ns : List ℕ) (i n : ℕ) (lt : i < length units) (within : i < length ns) (number : n ≡ slice_index ns i) where
    into : SpellNumbers letters (drop i units) (drop i ns) → SpellNumbers letters (get_or units i 0 ∷ drop (i + 1) units) (n ∷ drop (i + 1) ns)
    into s = subst (λ (m : ℕ). SpellNumbers letters (get_or units i 0 ∷ drop (i + 1) units) (m ∷ drop (i + 1) ns)) (sym number)
        (subst (SpellNumbers letters (get_or units i 0 ∷ drop (i + 1) units)) (drop_more ns i 0 within) (subst (λ (us : List ℕ). SpellNumbers letters us (drop i ns)) (drop_more units i 0 lt) s))

    back : SpellNumbers letters (get_or units i 0 ∷ drop (i + 1) units) (n ∷ drop (i + 1) ns) → SpellNumbers letters (drop i units) (drop i ns)
    back s = subst (λ (us : List ℕ). SpellNumbers letters us (drop i ns)) (sym (drop_more units i 0 lt)) (subst (SpellNumbers letters (get_or units i 0 ∷ drop (i + 1) units)) (sym (drop_more ns i 0 within))
        (subst (λ (m : ℕ). SpellNumbers letters (get_or units i 0 ∷ drop (i + 1) units) (m ∷ drop (i + 1) ns)) number s))

    -- after a unit that is its number's letter, the rest decides
    pub spell_more : (r : Bool) → (IsTrue r ↔ IsLetter letters n (get_or units i 0)) → r ≡ true → (SpellNumbers letters units ns ↔ SpellNumbers letters (drop i units) (drop i ns))
        → (SpellNumbers letters units ns ↔ SpellNumbers letters (drop (i + 1) units) (drop (i + 1) ns))
    spell_more r reported e all = (λ s. spell_rest _ n _ _ (into (all.0 s)), λ s. all.1 (back (spell_both _ n _ _ (reported.0 e) s)))

    -- at one that is not, nothing is spelled
    pub spell_not : (r : Bool) → (IsTrue r ↔ IsLetter letters n (get_or units i 0)) → r ≡ false → (SpellNumbers letters units ns ↔ SpellNumbers letters (drop i units) (drop i ns))
        → (IsTrue false ↔ SpellNumbers letters units ns)
    spell_not r reported e all = (λ t. absurd cc, λ s. sym e ∙ reported.1 (spell_first _ n _ _ (into (all.0 s))))

-- ---- letters that were looked up

-- where a part of the numbers is, there is that of their letters
pub span_letters : (letters ps : List ℕ) (s : Span) → HasSpan ps s → HasSpan (letters_in letters ps) s
span_letters letters ps s h = record { ordered = h.ordered; within = omega (arith, h.within, length-map ps (letter_in letters)) }

-- and it has the letters of that part
pub part_letters : (letters ps : List ℕ) (s : Span) → span_of (letters_in letters ps) s ≡ letters_in letters (span_of ps s)
part_letters letters ps s = ap (take (s.end - s.start)) (drop-map (letter_in letters) s.start ps) ∙ take-map (letter_in letters) (s.end - s.start) (drop s.start ps)

-- units of these letters are those of the numbers that have them
pub these_spelled : (letters units ns found : List ℕ) → found ≡ letters_in letters ns → (r : Bool) → (IsTrue r ↔ AreThese found units) → (IsTrue r ↔ SpellNumbers letters units ns)
these_spelled letters units ns found is r reported =
    let here : IsTrue r ↔ AreThese (letters_in letters ns) units = subst (λ (l : List ℕ). IsTrue r ↔ AreThese l units) is reported in (
      λ t. let s = here.0 t in record { units_are = s.units_are; no_void = all_seen (letter_in letters) IsNotVoid ns (subst (All IsNotVoid) s.units_are s.no_void) },
      λ s. here.1 (record { units_are = s.units_are; no_void = subst (All IsNotVoid) (sym s.units_are) (All-map IsNotVoid (letter_in letters) ns s.no_void) }),
    )

-- after the first letter the rest decides
pub spelled_after : (letters text rest ns : List ℕ) (unit first : ℕ) → text ≡ unit ∷ rest → unit ≡ first → (r : Bool) → (IsTrue r ↔ SpellNumbers letters rest ns) → (IsTrue r ↔ IsSpelled letters text first ns)
spelled_after letters text rest ns unit first is same r reported = (
  λ t. let s = reported.0 t in record { text_is = is ∙ (λ k. same k ∷ s.units_are k); no_void = s.no_void },
  λ s. reported.1 (record { units_are = ap (λ (l : List ℕ). drop 1 l) (sym is ∙ s.text_is); no_void = s.no_void }),
)

-- ---- no void

module _ (units : List ℕ) (i : ℕ) (found : Bool) (all : All IsNotVoid units ↔ ((found ≡ false) × All IsNotVoid (drop i units))) where
  pub void_here : i < length units → get_or units i 0 ≡ 0x56 → (All IsNotVoid units ↔ ((true ≡ false) × All IsNotVoid (drop (i + 1) units)))
  void_here lt is = (
    λ a. absurd (All-head IsNotVoid (get_or units i 0) (drop (i + 1) units) (subst (All IsNotVoid) (drop_more units i 0 lt) (all.0 a).1) is),
    λ p. absurd (false≢true (sym p.0)),
  )

  pub no_void_here : i < length units → get_or units i 0 ≢ 0x56 → (All IsNotVoid units ↔ ((found ≡ false) × All IsNotVoid (drop (i + 1) units)))
  no_void_here lt is = (
    λ a. ((all.0 a).0, All-tail IsNotVoid (get_or units i 0) (drop (i + 1) units) (subst (All IsNotVoid) (drop_more units i 0 lt) (all.0 a).1)),
    λ p. all.1 (p.0, subst (All IsNotVoid) (sym (drop_more units i 0 lt)) (All-cons IsNotVoid (get_or units i 0) (drop (i + 1) units) is p.1)),
  )

-- at the end what was found decides
pub void_decides : (units : List ℕ) (i : ℕ) (found : Bool) → length units ≤ i → (All IsNotVoid units ↔ ((found ≡ false) × All IsNotVoid (drop i units))) → (IsTrue (not found) ↔ All IsNotVoid units)
void_decides units i true le all = (λ t. absurd (false≢true t), λ a. absurd (false≢true (sym (all.0 a).0)))
void_decides units i false le all = (λ t. all.1 (refl, subst (All IsNotVoid) (sym (drop_all i units le)) (All-nil IsNotVoid)), λ a. refl)
