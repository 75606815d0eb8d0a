-- An annotations directory is at the offset of its canonical bytes, if its sets and ref lists are at their offsets.
use Rattle.dexspec.proofs.Common.{◌≡◌, ℕ, ◌+◌, ◌-◌, ◌*◌, ◌%◌, ◌^◌, ◌<◌, ◌≤◌, All, List, [], ◌∷◌, ◌++◌, length, map, refl, subst, sym, arith, IsTrue, AllZip, nat_cmp, length-append, All-head, All-tail}
use Rattle.dexspec.specs.{rises, OrNone, uint, uint_at, BytesAt, data_off, FieldRow, MethodRow, Directory, SetAt, RefListAt, PairAt, PairsAt, DirectoryAt, pairs_at, pairs_bytes}
use Rattle.dexspec.proofs.written.PlacedBytes.{is_at_within, is_at, length_rows}
use Rattle.dexspec.proofs.numbers.ByteNumbers.{length-uint, uint_at-encodes}
use Rattle.dexspec.proofs.written.NumbersWritten.{prefix_is_at, suffix_is_at}
use Rattle.dexspec.proofs.written.SetsWritten.{set_small}

-- the pairs name the entries, and their indices rise strictly and fit 32 bits
abbrev pub ArePairs : {M X : Type 0} → (List ℕ → ℕ → M → Type 0) → (List ℕ → ℕ → X → Type 0) → List ℕ → List (ℕ × ℕ) → List (M × X) → Type 0
ArePairs Row At b ps entries = AllZip (PairAt Row At b) ps entries × IsTrue (rises nat_cmp (map (λ p. p.0) ps)) × All (λ p. p.0 < 2 ^ 32) ps

-- a pair has eight bytes
pair_size : (p : ℕ × ℕ) → length (uint p.0 ++ uint p.1) ≡ 8
pair_size p = omega (arith, length-append (uint p.0) (uint p.1), length-uint p.0, length-uint p.1)

-- n pairs have n times eight bytes
pub pairs_size : (ps : List (ℕ × ℕ)) → length (pairs_bytes ps) ≡ 8 * length ps
pairs_size ps = length_rows (λ (p : ℕ × ℕ). uint p.0 ++ uint p.1) 8 pair_size ps

module _ {M X : Type 0} (Row : List ℕ → ℕ → M → Type 0) (At : List ℕ → ℕ → X → Type 0) (b : List ℕ) (small : (p : ℕ) (x : X) → At b p x → p < 2 ^ 32) where
  -- pairs are read back
  pairs_read : (o : ℕ) (ps : List (ℕ × ℕ)) (entries : List (M × X)) → AllZip (PairAt Row At b) ps entries → All (λ p. p.0 < 2 ^ 32) ps → BytesAt b o (pairs_bytes ps) → pairs_at b o (length ps) ≡ ps
  pairs_read o [] [] are few h = refl
  pairs_read o [] (e ∷ es) are few h = absurd are
  pairs_read o (p ∷ ps) [] are few h = absurd are
  pairs_read o (p ∷ ps) (e ∷ es) are few h =
      let fits = λ (q : ℕ × ℕ). q.0 < 2 ^ 32 in
      let x = uint p.0 in
      let y = uint p.1 in
      let head = prefix_is_at (x ++ y) (pairs_bytes ps) h in
      let first : uint_at b o ≡ p.0 = uint_at-encodes (All-head fits p ps few) (prefix_is_at x y head) in
      let second : uint_at b (o + 4) ≡ p.1 = uint_at-encodes (small p.1 e.1 are.0.2) (is_at (omega (arith, length-uint p.0)) (suffix_is_at x y head)) in
      let rest : pairs_at b (o + 8) (length ps) ≡ ps = pairs_read (o + 8) ps es are.1 (All-tail fits p ps few) (is_at (omega (arith, pair_size p)) (suffix_is_at (x ++ y) (pairs_bytes ps) h)) in
      λ i. (first i, second i) ∷ rest i

  -- they are a list of a directory
  pairs_written : (o n : ℕ) (ps : List (ℕ × ℕ)) (entries : List (M × X)) → ArePairs Row At b ps entries → n ≡ length ps → BytesAt b o (pairs_bytes ps) → PairsAt Row At b o n entries
  pairs_written o n ps entries are count h =
      let read = pairs_read o ps entries are.0 are.2 h in
      subst (λ (k : ℕ). PairsAt Row At b o k entries) (sym count)
      (record { pairs = subst (λ qs. AllZip (PairAt Row At b) qs entries) (sym read) are.0; rise = subst (λ qs. IsTrue (rises nat_cmp (map (λ p. p.0) qs))) (sym read) are.1 })

-- the bytes of a directory with these offsets
abbrev pub directory_of : ℕ → List (ℕ × ℕ) → List (ℕ × ℕ) → List (ℕ × ℕ) → List ℕ
directory_of own fields methods parameters = uint own ++ (uint (length fields) ++ (uint (length methods) ++ (uint (length parameters) ++ (pairs_bytes fields ++ (pairs_bytes methods ++ pairs_bytes parameters)))))

-- a directory is at the offset of its bytes
pub directory_written : (b : List ℕ) (o own : ℕ) (fs ms ps : List (ℕ × ℕ)) (d : Directory) → length b < 2 ^ 32 → data_off b ≤ o → o % 4 ≡ 0 → OrNone SetAt [] b own d.own → ArePairs FieldRow SetAt b fs d.fields → ArePairs MethodRow SetAt b ms d.methods → ArePairs MethodRow RefListAt b ps d.parameters
    → BytesAt b o (directory_of own fs ms ps) → DirectoryAt b o d
directory_written b o own fs ms ps d short following aligned own_is fields methods parameters h =
    let n0 = uint own in
    let n1 = uint (length fs) in
    let n2 = uint (length ms) in
    let n3 = uint (length ps) in
    let x0 = pairs_bytes fs in
    let x1 = pairs_bytes ms in
    let x2 = pairs_bytes ps in
    let r5 = x1 ++ x2 in
    let r4 = x0 ++ r5 in
    let r3 = n3 ++ r4 in
    let r2 = n2 ++ r3 in
    let r1 = n1 ++ r2 in
    let size : length (n0 ++ r1) ≡ 16 + 8 * (length fs + length ms + length ps) = omega (arith, length-append {A = ℕ}, length-uint, pairs_size) in
    let within : 16 + 8 * (length fs + length ms + length ps) ≤ length b - o = omega (arith, size, is_at_within h) in
    let h1 : BytesAt b (o + 4) r1 = is_at (omega (arith, length-uint own)) (suffix_is_at n0 r1 h) in
    let h2 : BytesAt b (o + 8) r2 = is_at (omega (arith, length-uint (length fs))) (suffix_is_at n1 r2 h1) in
    let h3 : BytesAt b (o + 12) r3 = is_at (omega (arith, length-uint (length ms))) (suffix_is_at n2 r3 h2) in
    let h4 : BytesAt b (o + 16) r4 = is_at (omega (arith, length-uint (length ps))) (suffix_is_at n3 r4 h3) in
    let h5 : BytesAt b (o + 16 + 8 * length fs) r5 = is_at (omega (arith, pairs_size fs)) (suffix_is_at x0 r5 h4) in
    let h6 : BytesAt b (o + 16 + 8 * (length fs + length ms)) x2 = is_at (omega (arith, pairs_size ms)) (suffix_is_at x1 x2 h5) in
    let e0 : uint_at b o ≡ own = uint_at-encodes (set_small b short own d.own own_is) (prefix_is_at n0 r1 h) in
    let e1 : uint_at b (o + 4) ≡ length fs = uint_at-encodes (omega (arith, within)) (prefix_is_at n1 r2 h1) in
    let e2 : uint_at b (o + 8) ≡ length ms = uint_at-encodes (omega (arith, within)) (prefix_is_at n2 r3 h2) in
    let e3 : uint_at b (o + 12) ≡ length ps = uint_at-encodes (omega (arith, within)) (prefix_is_at n3 r4 h3) in
    record {
      in_data = record { following = following; within = omega (arith, within, e1, e2, e3) };
      aligned = aligned;
      own = subst (λ (n : ℕ). OrNone SetAt [] b n d.own) (sym e0) own_is;
      fields = pairs_written FieldRow SetAt b (λ p x s. omega (arith, s.in_data.within, short)) (o + 16) (uint_at b (o + 4)) fs d.fields fields e1 (prefix_is_at x0 r5 h4);
      methods = pairs_written MethodRow SetAt b (λ p x s. omega (arith, s.in_data.within, short)) (o + 16 + 8 * uint_at b (o + 4)) (uint_at b (o + 8)) ms d.methods methods e2 (is_at (omega (arith, e1)) (prefix_is_at x1 x2 h5));
      parameters =
          pairs_written MethodRow RefListAt b (λ p x s. omega (arith, s.in_data.within, short)) (o + 16 + 8 * (uint_at b (o + 4) + uint_at b (o + 8))) (uint_at b (o + 12)) ps d.parameters parameters e3 (is_at (omega (arith, e1, e2)) h6);
    }
