-- The images of the numbers of marked symbols: each has one, which is not greater, and is a number of the other
-- numbering.
use Rattle.dexpool.proofs.Common.{◌≡◌, ℕ, zero, suc, ◌+◌, ◌≤◌, ◌&&◌, ◌==◌, Bool, true, false, List, [], ◌∷◌, get_or, map, refl, sym, ◌∙◌, subst, arith, eq-eqb, Some, None, IsSome, All, flat_map, or_left, or_right, All-weaker, Contains-get_or, list_any-member, Mentions, FieldRow, MethodRow, kept, places, Maps, AllMapTo, image, MapsDown, MapsWithin, Use, AreMarkedToo, IsMarkedUse, IsMappedUse, MapsMarked, marks_of, same_kind, occurs, ProtoEntry, Tables, Marks, SymbolKind, IsMarked, AreClosure, kept_places, mark_all, field_types, entry_types}
use Rattle.dexpool.proofs.KeptPlaces.{marked_has}
use Rattle.dexpool.specs.declared.symbols.SymbolKind.TheVariants as kinds
use Rattle.dexpool.proofs.KeptRows.{mark_within, mark_stays}

-- ---- to none greater

some_same : (m n : ℕ) → Some m ≡ Some n → m ≡ n
some_same m n e = cc

places_down : (marks : List Bool) (n i j : ℕ) → image (places n marks) i ≡ Some j → j ≤ n + i
places_down (true ∷ marks) n zero j e = omega (arith, some_same n j e)
places_down (true ∷ marks) n (suc i) j e = omega (arith, places_down marks (suc n) i j e)
places_down (false ∷ marks) n (suc i) j e = omega (arith, places_down marks n i j e)
places_down _ n _ j e = absurd cc

-- a cut has no greater images
pub kept_down : (marks : Marks) → MapsDown (kept_places marks)
kept_down marks kinds.Text i j e = omega (arith, places_down marks.strings.items 0 i j e)
kept_down marks kinds.Typ i j e = omega (arith, places_down marks.types.items 0 i j e)
kept_down marks kinds.Proto i j e = omega (arith, places_down marks.protos.items 0 i j e)
kept_down marks kinds.Field i j e = omega (arith, places_down marks.fields.items 0 i j e)
kept_down marks kinds.Method i j e = omega (arith, places_down marks.methods.items 0 i j e)

-- ---- somewhere

has_image : (marks : List Bool) (i : ℕ) → IsMarked marks i → IsSome (image (places 0 marks) i)
has_image marks i e = let place = marked_has marks i 0 false None (mark_within marks i e) e in subst IsSome (sym place.1) refl

-- more marks leave what was marked
stays : (marks closed : List Bool) (ns : List ℕ) → closed ≡ mark_all marks ns → (i : ℕ) → IsMarked marks i → IsMarked closed i
stays marks closed ns e i marked = subst (λ ms. IsMarked ms i) (sym e) (mark_stays marks ns i marked)

stays_too : (marks closed : List Bool) (ks ms ns : List ℕ) → closed ≡ mark_all (mark_all (mark_all marks ks) ms) ns → (i : ℕ) → IsMarked marks i → IsMarked closed i
stays_too marks closed ks ms ns e i marked = stays (mark_all (mark_all marks ks) ms) closed ns e i (mark_stays (mark_all marks ks) ms i (mark_stays marks ks i marked))

-- what is marked has an image by the closed marks
pub kept_marked : (t : Tables) (marks closed : Marks) → AreClosure t marks closed → MapsMarked marks (kept_places closed)
kept_marked t marks closed is kinds.Text i e =
    let methods = map (λ (m : MethodRow). m.name) (kept marks.methods.items t.methods.items) in
    let fields = map (λ (f : FieldRow). f.name) (kept marks.fields.items t.fields.items) in
    has_image closed.strings.items i (stays_too (mark_all marks.strings.items methods) closed.strings.items fields (map (λ (p : ProtoEntry). p.shorty) (kept closed.protos.items t.protos.items)) (kept closed.types.items t.types.items) is.strings_are i (mark_stays marks.strings.items methods i e))
kept_marked t marks closed is kinds.Typ i e =
    let protos = flat_map (entry_types t.parameters) (kept closed.protos.items t.protos.items) in
    has_image closed.types.items i (stays_too marks.types.items closed.types.items (map (λ (m : MethodRow). m.class) (kept marks.methods.items t.methods.items)) (flat_map field_types (kept marks.fields.items t.fields.items)) protos is.types_are i e)
kept_marked t marks closed is kinds.Proto i e =
    has_image closed.protos.items i (stays marks.protos.items closed.protos.items (map (λ (m : MethodRow). m.proto) (kept marks.methods.items t.methods.items)) is.protos_are i e)
kept_marked t marks closed is kinds.Field i e = has_image closed.fields.items i (subst (λ ms. IsMarked ms i) (sym is.fields_are) e)
kept_marked t marks closed is kinds.Method i e = has_image closed.methods.items i (subst (λ ms. IsMarked ms i) (sym is.methods_are) e)

-- ---- within the other numbering

pub maps_within : (m n : Mentions) (r : Maps) → AllMapTo m n r → MapsWithin n r
maps_within m n r l kinds.Text i j e = (l.texts_mapped.same i j [] e).within
maps_within m n r l kinds.Typ i j e = (l.types_mapped.same i j [] e).within
maps_within m n r l kinds.Proto i j e = (l.protos_mapped.same i j (record { return_type = []; parameters = [] }) e).within
maps_within m n r l kinds.Field i j e = (l.fields_mapped.same i j (record { class = []; name = []; type = [] }) e).within
maps_within m n r l kinds.Method i j e = (l.methods_mapped.same i j (record { class = []; name = []; proto = record { return_type = []; parameters = [] } }) e).within

-- ---- what occurs

same_kind-refl : (kind : SymbolKind) → same_kind kind kind ≡ true
same_kind-refl kinds.Text = refl
same_kind-refl _ = refl

uses_itself : (u : Use) → (same_kind u.kind u.kind && u.number == u.number) ≡ true
uses_itself u = rw (same_kind-refl u.kind) (eq-eqb u.number u.number refl)

pub are_marked : (us : List Use) (old new : Marks) → AreMarkedToo us old new → All (IsMarkedUse new) us
are_marked us old new is k d lt =
    let u = get_or us k d in
    is.each u.kind u.number ∙ or_right (get_or (marks_of u.kind old) u.number false) (occurs us u.kind u.number) (list_any-member (λ v. same_kind v.kind u.kind && v.number == u.number) us u (Contains-get_or us k d lt) (uses_itself u))

pub stay_marked : (us : List Use) (old new : Marks) → AreMarkedToo us old new → (vs : List Use) → All (IsMarkedUse old) vs → All (IsMarkedUse new) vs
stay_marked us old new is vs h = All-weaker (IsMarkedUse old) (IsMarkedUse new) (λ u e. is.each u.kind u.number ∙ or_left (get_or (marks_of u.kind old) u.number false) (occurs us u.kind u.number) e) vs h

pub marked_remapped : (marks : Marks) (r : Maps) → MapsMarked marks r → (us : List Use) → All (IsMarkedUse marks) us → All (IsMappedUse r) us
marked_remapped marks r are_mapped us h = All-weaker (IsMarkedUse marks) (IsMappedUse r) (λ u e. are_mapped u.kind u.number e) us h
