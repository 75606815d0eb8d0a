-- If a part of a handler is missing, there is no handler.
use Rattle.dexcode.proofs.Common.{◌≡◌, ℕ, ◌+◌, ◌≤◌, Bool, List, [], ◌∷◌, ◌++◌, length, Option, Some, None, refl, ap, sym, subst, ◌∙◌, arith, ℤ, nat_abs, IfNone, IsSome, length-append, Sequence, Uleb128At, Sleb128At, one_uleb128, one_sleb128, one_sequence, ItemFault, Refused, Memory, one_after, Catch, NumberedHandler, IsStart, IsTriesFault, CatchAt, CatchesRead, CatchAllAt, HandlerAt, HaveCatches, ints}

-- ---- There is at most one handler at an offset, and it has one size

-- one address for all else, or none
pub one_catch_all : (starts : List Bool) (size : ℤ) (b : List ℕ) (o : ℕ) (c d : Option ℕ) (n k : ℕ) → CatchAllAt starts size b o c n → CatchAllAt starts size b o d k → (c ≡ d) × (n ≡ k)
one_catch_all starts size b o None None n k h g = (refl, h.1 ∙ sym g.1)
one_catch_all starts size b o (Some c) (Some d) n k h g = let e = one_uleb128 b o c d n k h.1 g.1 in (ap Some e.0, e.1)
one_catch_all starts size b o _ _ n k h g = absurd (omega (arith, ints, h.0, g.0))

module _ (starts : List Bool) (types : ℕ) where
  -- one catch
  pub one_catch : (b : List ℕ) (o : ℕ) (c d : Catch) (n k : ℕ) → CatchAt starts types b o c n → CatchAt starts types b o d k → (c ≡ d) × (n ≡ k)
  one_catch b o c d n k h g =
      let index = one_uleb128 b o c.typ d.typ h.index_size g.index_size h.index_is g.index_is in
      let addr = one_uleb128 b (o + g.index_size) c.addr d.addr h.address_size g.address_size (subst (λ (i : ℕ). Uleb128At b (o + i) c.addr h.address_size) index.1 h.address_is) g.address_is in
      ((λ i. record { typ = index.0 i; addr = addr.0 i }), omega (arith, index.1, addr.1, h.size, g.size))

  -- one handler
  pub one_handler : (b : List ℕ) (o : ℕ) (x y : NumberedHandler) (n k : ℕ) → HandlerAt starts types b o x n → HandlerAt starts types b o y k → (x ≡ y) × (n ≡ k)
  one_handler b o x y n k h g =
      let count = one_sleb128 b o h.count g.count h.count_size g.count_size h.count_is g.count_is in
      let catches = one_sequence (CatchAt starts types) one_catch b (o + g.count_size) x.catches y.catches h.catches_size g.catches_size (sym h.many ∙ ap nat_abs count.0 ∙ g.many)
      (subst (λ (i : ℕ). Sequence (CatchAt starts types) b (o + i) x.catches h.catches_size) count.1 h.catches_are) g.catches_are in
      let place : o + h.count_size + h.catches_size ≡ o + g.count_size + g.catches_size = omega (arith, count.1, catches.1) in
      let moved = subst (λ (z : ℤ). CatchAllAt starts z b (o + h.count_size + h.catches_size) x.catch_all_addr h.all_size) count.0 h.all in
      let all = one_catch_all starts g.count b (o + g.count_size + g.catches_size) x.catch_all_addr y.catch_all_addr h.all_size g.all_size
      (subst (λ (p : ℕ). CatchAllAt starts g.count b p x.catch_all_addr h.all_size) place moved) g.all in
      ((λ i. record { catches = catches.0 i; catch_all_addr = all.0 i }), omega (arith, count.1, catches.1, all.1, h.size, g.size))

-- a fault has another reason that follows
pub fault_so : {P Q : Type 0} → (P → Q) → (fault : ItemFault) → IsTriesFault P fault → IsTriesFault Q fault
fault_so so (Refused number) h = (h.0, so h.1)
fault_so so Memory h = h

-- what is not absent is there
pub there_is : {X N : Type 0} (r : Option X) → IfNone r N → (N → ⊥) → IsSome r
there_is None none not_none = absurd (not_none none)
there_is (Some x) none not_none = refl

module _ (starts : List Bool) (types : ℕ) (b : List ℕ) (o : ℕ) (count : ℤ) (count_size : ℕ) (count_is : Sleb128At b o count count_size) where
  -- its catches are after its size, which is their number
  pub its_catches : (h : NumberedHandler) (n : ℕ) → (at : HandlerAt starts types b o h n) → (length h.catches ≡ nat_abs count) × Sequence (CatchAt starts types) b (o + count_size) h.catches at.catches_size
  its_catches h n at =
      let e = one_sleb128 b o at.count count at.count_size count_size at.count_is count_is in
      (sym at.many ∙ ap nat_abs e.0, subst (λ (i : ℕ). Sequence (CatchAt starts types) b (o + i) h.catches at.catches_size) e.1 at.catches_are)

  -- and the address for all else after them
  pub its_catch_all : (h : NumberedHandler) (n : ℕ) → (at : HandlerAt starts types b o h n) → (size : ℕ) → size ≡ at.catches_size → CatchAllAt starts count b (o + count_size + size) h.catch_all_addr at.all_size
  its_catch_all h n at size is =
      let e = one_sleb128 b o at.count count at.count_size count_size at.count_is count_is in
      let place : o + at.count_size + at.catches_size ≡ o + count_size + size = omega (arith, e.1, is) in
      subst (λ (i : ℕ). CatchAllAt starts count b i h.catch_all_addr at.all_size) place (subst (λ (z : ℤ). CatchAllAt starts z b (o + at.count_size + at.catches_size) h.catch_all_addr at.all_size) e.0 at.all)

  -- without its catches
  pub no_catches : (many : ℕ) → many ≡ nat_abs count → ((cs : List Catch) (n : ℕ) → length cs ≡ many → Sequence (CatchAt starts types) b (o + count_size) cs n → ⊥) → (h : NumberedHandler) (n : ℕ) → HandlerAt starts types b o h n → ⊥
  no_catches many is none h n at = let own = its_catches h n at in none h.catches at.catches_size (own.0 ∙ sym is) own.1

  -- without the address for all else
  pub no_catch_all : (many : ℕ) → many ≡ nat_abs count → (cs : List Catch) (size : ℕ) → CatchesRead starts types b (o + count_size) many cs size → ((a : Option ℕ) (n : ℕ) → CatchAllAt starts count b (o + count_size + size) a n → ⊥) → (h : NumberedHandler) (n : ℕ) → HandlerAt starts types b o h n → ⊥
  no_catch_all many is cs size read none h n at =
      let own = its_catches h n at in
      none h.catch_all_addr at.all_size (its_catch_all h n at size (one_sequence (CatchAt starts types) (one_catch starts types) b (o + count_size) cs h.catches size at.catches_size (read.many ∙ is ∙ sym own.0) read.are_encoded own.1).1)

module _ (starts : List Bool) (types : ℕ) (b : List ℕ) (o typ index_size : ℕ) (index_is : Uleb128At b o typ index_size) where
  -- if the type is out of range, there is no catch
  pub no_type : types ≤ typ → (c : Catch) (n : ℕ) → CatchAt starts types b o c n → ⊥
  no_type past c n at = omega (arith, (one_uleb128 b o typ c.typ index_size at.index_size index_is at.index_is).0, at.in_range, past)

  -- nor without its address
  pub no_address : ((a n : ℕ) → Uleb128At b (o + index_size) a n → IsStart starts a → ⊥) → (c : Catch) (n : ℕ) → CatchAt starts types b o c n → ⊥
  no_address none c n at =
      none c.addr at.address_size (subst (λ (k : ℕ). Uleb128At b (o + k) c.addr at.address_size) (sym (one_uleb128 b o typ c.typ index_size at.index_size index_is at.index_is).1) at.address_is) at.start

-- one more catch is after them
pub one_catch_more : (starts : List Bool) (types : ℕ) (b : List ℕ) (o count size n : ℕ) (c : Catch) → HaveCatches starts types b o count size → CatchAt starts types b (o + size) c n → o + size + n ≤ length b → HaveCatches starts types b o (count + 1) (size + n)
one_catch_more starts types b o count size n c h at within = record {
  catches = h.catches ++ c ∷ [];
  read = record {
    are_encoded = one_after (CatchAt starts types) b o h.catches c size n h.read.are_encoded at;
    many = omega (arith, length-append h.catches (c ∷ []), h.read.many);
    within = omega (arith, within);
  };
}
