-- The annotations of a row: condition 22, and what was read.
use Rattle.dexmembers.proofs.Common.{◌≡◌, ◌≢◌, ℕ, List, [], ◌∷◌, map, refl, sym, ap, ◌∙◌, subst, inl, inr, Some, nat_cmp, rises, OrNone, Directory, DirectoryAt, no_directory, annotations_off, HasAnnotations, Mentions, ItemFault, Refused, Memory, AreRising, ArePools, shared_directory_of, set_at, sets_at, directory_in, HasMembers, IsDirectoryFault, IsDirectoryFaultWithin, IsDirectoryWithin, SharedDirectory}
use Rattle.dexmembers.specs.internal.ClassData.{class_data_in, IsDataOf}
use Rattle.dexmembers.specs.internal.Attaching.{EntriesRise}
use Rattle.dexmembers.specs.internal.Naming.{NamesRead, ListsRise}
use Rattle.dexmembers.specs.internal.RowParts.{AreAnnotationsOf, IsAnnotationsFault, IsAnnotationsFaultWithin}
use Rattle.dexmembers.specs.declared.class_data.ClassData.{ClassData as DataRead}
use Rattle.dexmembers.proofs.Entered.{field_entries_rise, method_entries_rise, list_entries_rise}
use Rattle.dexmembers.proofs.NamesKept.{named_members, named_indices}

-- entries keep their numbers
keys_same : {X Y : Type 0} (f : X → Y) (es : List (ℕ × X)) → map (λ (e : ℕ × Y). e.0) (map (λ (e : ℕ × X). (e.0, f e.1)) es) ≡ map (λ (e : ℕ × X). e.0) es
keys_same f [] = refl
keys_same f (e ∷ es) = ap (λ (l : List ℕ). e.0 ∷ l) (keys_same f es)

-- so these rise
keys_rise : {X Y : Type 0} (f : X → Y) (es : List (ℕ × X)) → EntriesRise (map (λ (e : ℕ × X). (e.0, f e.1)) es) → EntriesRise es
keys_rise f es h = ap (rises nat_cmp) (sym (keys_same f es)) ∙ h

-- the lists of class data that was read rise
pub lists_rise : (b : List ℕ) (r : ℕ) (m : Mentions) (read : DataRead) → IsDataOf b r m read → ListsRise read
lists_rise b r m read is = record {
  rising_fields = record { first_rise = is.static_fields_are.fields_rise; second_rise = is.instance_fields_are.fields_rise };
  rising_methods = record { first_rise = is.direct_methods_are.methods_rise; second_rise = is.virtual_methods_are.methods_rise };
}

module _ (b : List ℕ) (r : ℕ) (m : Mentions) (read : DataRead) (is : IsDataOf b r m read) (off : ℕ) (off_is : off ≡ annotations_off b r) (some : off ≢ 0) where
  -- the directory at an offset other than 0
  directory_there : (a : Directory) → OrNone DirectoryAt no_directory b (annotations_off b r) a → DirectoryAt b off a
  directory_there a (inl h) = absurd (some (off_is ∙ h.0))
  directory_there a (inr h) = subst (λ (o : ℕ). DirectoryAt b o a) (sym off_is) h.1

  pub directory_here : (a : Directory) → DirectoryAt b off a → OrNone DirectoryAt no_directory b (annotations_off b r) a
  directory_here a h = inr (λ e. some (off_is ∙ e), subst (λ (o : ℕ). DirectoryAt b o a) off_is h)

  -- if there is no directory, condition 22 fails
  pub directory_refused : (fault : ItemFault) → IsDirectoryFault b off fault → IsAnnotationsFault b r fault
  directory_refused Memory h = tt
  directory_refused (Refused n) h = (h.0, λ holds. let a = holds (class_data_in m read) is.declared in h.1 a.0 (directory_there a.0 a.1))

  -- or it weighs more than it may
  pub directory_refused_within : (most : ℕ) (fault : ItemFault) → IsDirectoryFaultWithin b off most fault → IsAnnotationsFaultWithin b r most fault
  directory_refused_within most Memory h = tt
  directory_refused_within most (Refused n) (inl h) = inl (directory_refused (Refused n) h)
  directory_refused_within most (Refused n) (inr h) = inr (h.0, λ a at. h.1 a (directory_there a at))

  module _ (pools : ArePools b m) (rising : AreRising m) where
    -- where it names others too
    pub unnamed_refused : (HasMembers b off → ListsRise read → NamesRead b off read → ⊥) → HasAnnotations b r → ⊥
    unnamed_refused none holds =
        let a = holds (class_data_in m read) is.declared in
        let at = directory_there a.0 a.1 in
        none (record { in_data = at.in_data; aligned = at.aligned }) (lists_rise b r m read is) (named_indices b m pools rising off a.0 at r read is a.2)

    -- what was read is that of the row
    pub directory_returned : (most : ℕ) (a : SharedDirectory) → IsDirectoryWithin b off m most (shared_directory_of a) → NamesRead b off read → AreAnnotationsOf b r m read a
    directory_returned most a h names = record {
      known = h.is.known;
      at = directory_here (directory_in m (shared_directory_of a)) h.is.at;
      named = named_members b m pools rising off (directory_in m (shared_directory_of a)) h.is.at r read is names;
      entered = record {
        fields_entered = keys_rise (λ (i : ℕ). set_at a.table.sets (Some i)) a.fields.items (field_entries_rise b m pools rising off (shared_directory_of a) h.is);
        methods_entered = keys_rise (λ (i : ℕ). set_at a.table.sets (Some i)) a.methods.items (method_entries_rise b m pools rising off (shared_directory_of a) h.is);
        parameters_entered = keys_rise (λ (i : ℕ). sets_at a.table (Some i)) a.parameters.items (list_entries_rise b m pools rising off (shared_directory_of a) h.is);
      };
    }
