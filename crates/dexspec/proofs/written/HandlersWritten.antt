-- Handlers are at the offset of their canonical bytes, if each caught type is in the row of its index.
use Rattle.dexspec.proofs.Common.{◌≡◌, ℕ, ◌+◌, ◌^◌, ◌<◌, All, List, [], ◌∷◌, ◌++◌, length, map, Option, Some, None, refl, arith, pos, ◌-ℤ◌, nat_abs, ◌≤ℤ◌, FitsSigned, IfSome, w32, flat_map, Contains, ints, length-append, All-contains, Mentions}
use Rattle.dexspec.specs.{Sequence, BytesAt, uleb128, sleb128, TypeSymbol, Cut, Catch, Handler, IsStart, CatchAt, HandlerAt, handler_symbols, type_index, catch_bytes, handler_bytes, IsHandlerOf}
use Rattle.dexspec.proofs.lists.Members.{Contains-first, Contains-later}
use Rattle.dexspec.proofs.written.NumbersWritten.{prefix_is_at, suffix_is_at, uleb128_written, sleb128_written, AreInRows, IsInRow, first_in_row, rest_in_rows}

module _ (us : List ℕ) (cuts : List Cut) (b : List ℕ) (m : Mentions) where
  -- a catch is at the offset of its bytes
  pub catch_written : (o : ℕ) (c : Catch) → IsInRow b m (TypeSymbol c.type) → c.address < 2 ^ 32 → IsStart us cuts c.address → BytesAt b o (catch_bytes m c) → CatchAt us cuts b o c (length (catch_bytes m c))
  catch_written o c row lt start h =
      let x = uleb128 (type_index m c.type) in
      let y = uleb128 c.address in
      record {
        index = type_index m c.type;
        index_size = length x;
        address_size = length y;
        index_is = uleb128_written b o (type_index m c.type) (omega (arith, row.1)) (prefix_is_at x y h);
        type = row.0;
        address = uleb128_written b (o + length x) c.address lt (suffix_is_at x y h);
        start = start;
        size = length-append x y;
      }

  -- catches are at the offset of their bytes
  catches_written : (o : ℕ) (cs : List Catch) → AreInRows b m (map (λ c. TypeSymbol c.type) cs) → ((c : Catch) → Contains cs c → c.address < 2 ^ 32) → ((c : Catch) → Contains cs c → IsStart us cuts c.address) → BytesAt b o (flat_map (catch_bytes m) cs)
      → Sequence (CatchAt us cuts) b o cs (length (flat_map (catch_bytes m) cs))
  catches_written o [] are few starts h = refl
  catches_written o (c ∷ cs) are few starts h =
      let x = catch_bytes m c in
      let rest = flat_map (catch_bytes m) cs in
      let s = TypeSymbol c.type in
      let ss = map (λ c. TypeSymbol c.type) cs in (
        length x,
        length rest,
        catch_written o c (first_in_row b m s ss are) (few c (Contains-first c cs)) (starts c (Contains-first c cs)) (prefix_is_at x rest h),
        catches_written (o + length x) cs (rest_in_rows b m s ss are) (λ d l. few d (Contains-later c d cs l)) (λ d l. starts d (Contains-later c d cs l)) (suffix_is_at x rest h),
        length-append x rest,
      )

  -- a count of catches that is less than the number of bytes of a file fits its encoding, and gives the number of
  -- catches
  count_fits : (n : ℕ) → n < 2 ^ 31 → FitsSigned w32 (pos n) × FitsSigned w32 (pos 0 -ℤ pos n) × (nat_abs (pos 0 -ℤ pos n) ≡ n) × ((pos 0 -ℤ pos n) ≤ℤ pos 0)
  count_fits n lt = (omega (arith, ints), omega (arith, ints), omega (arith, ints), omega (arith, ints))

  -- a handler from its catches and the catch-all address
  handler_by : (o : ℕ) (cs : List Catch) (catch_all : Option ℕ) → IsHandlerOf us cuts (record { catches = cs; catch_all = catch_all }) → length cs < 2 ^ 31 → ((c : Catch) → Contains cs c → c.address < 2 ^ 32) → IfSome catch_all (λ p. p < 2 ^ 32)
      → AreInRows b m (map (λ c. TypeSymbol c.type) cs) → BytesAt b o (handler_bytes m (record { catches = cs; catch_all = catch_all }))
      → HandlerAt us cuts b o (record { catches = cs; catch_all = catch_all }) (length (handler_bytes m (record { catches = cs; catch_all = catch_all })))
  handler_by o cs None is few small all are h =
      let n = pos (length cs) in
      let x = sleb128 n in
      let y = flat_map (catch_bytes m) cs in
      let following = suffix_is_at x (y ++ []) h in
      record {
        count = n;
        count_size = length x;
        catches_size = length y;
        all_size = 0;
        count_is = sleb128_written b o n (count_fits (length cs) few).0 (prefix_is_at x (y ++ []) h);
        many = refl;
        catches = catches_written (o + length x) cs are small (λ c l. All-contains (λ (c : Catch). IsStart us cuts c.address) cs c is.catches l) (prefix_is_at y [] following);
        all = (let some = is.some in omega (arith, ints, some), refl);
        size = omega (arith, length-append x (y ++ []), length-append y []);
      }
  handler_by o cs (Some p) is few small all are h =
      let n = pos 0 -ℤ pos (length cs) in
      let x = sleb128 n in
      let y = flat_map (catch_bytes m) cs in
      let z = uleb128 p ++ [] in
      let following = suffix_is_at x (y ++ z) h in
      let fits = count_fits (length cs) few in
      let size : length z ≡ length (uleb128 p) = omega (arith, length-append (uleb128 p) []) in
      record {
        count = n;
        count_size = length x;
        catches_size = length y;
        all_size = length (uleb128 p);
        count_is = sleb128_written b o n fits.1 (prefix_is_at x (y ++ z) h);
        many = fits.2;
        catches = catches_written (o + length x) cs are small (λ c l. All-contains (λ (c : Catch). IsStart us cuts c.address) cs c is.catches l) (prefix_is_at y z following);
        all = (fits.3, uleb128_written b (o + length x + length y) p all (prefix_is_at (uleb128 p) [] (suffix_is_at y z following)), is.catch_all);
        size = omega (arith, length-append x (y ++ z), length-append y z, size);
      }

  -- a handler is at the offset of its bytes
  pub handler_written : (o : ℕ) (h : Handler) → IsHandlerOf us cuts h → length h.catches < 2 ^ 31 → All (λ c. c.address < 2 ^ 32) h.catches → IfSome h.catch_all (λ p. p < 2 ^ 32) → AreInRows b m (handler_symbols h) → BytesAt b o (handler_bytes m h)
      → HandlerAt us cuts b o h (length (handler_bytes m h))
  handler_written o h is few small all are s = handler_by o h.catches h.catch_all is few (λ c l. All-contains (λ (c : Catch). c.address < 2 ^ 32) h.catches c small l) all are s
