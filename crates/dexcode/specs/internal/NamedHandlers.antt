-- The handlers of a list that tries name, which alone are kept.
use Rattle.std.specs.Prelude.{◌≡◌, ◌≢◌, ℕ, ◌+◌, ◌*◌, ◌<◌, ◌≤◌, Bool, List, length, All, Option, Some, None}
use Rattle.std.specs.Prelude.{slice_index_or}
use Rattle.indexmap.specs.IndexSet.{insert_key}
use Rattle.dexspec.specs.Bytes.{ushort_at}
use Rattle.dexcode.specs.declared.handlers.Catch.{Catch}
use Rattle.dexcode.specs.declared.tries.Try.{Try}
use Rattle.dexcode.specs.Numbered.{NumberedHandler, IsFormedHandler, no_handler, same_handler}
use Rattle.dexcode.specs.Reading.{CatchesRead, HandlerAt, IsListAt}

module _ (starts : List Bool) (types : ℕ) where
  -- from offset o on are `count` encoded_type_addr_pairs, in n bytes
  pub record HaveCatches (b : List ℕ) (o count n : ℕ) : Type 0 where
    pub catches : List Catch
    pub read : CatchesRead starts types b o count catches n

  -- at offset o is an encoded_catch_handler of n bytes
  pub record HasHandler (b : List ℕ) (o n : ℕ) : Type 0 where
    pub handler : NumberedHandler
    pub encodes : HandlerAt starts types b o handler n
    pub within : o + n ≤ length b

  -- at offset o is this handler
  pub record IsHandlerAt (b : List ℕ) (o : ℕ) (h : NumberedHandler) : Type 0 where
    pub size : ℕ
    pub encodes : HandlerAt starts types b o h size

  -- at offset o is a handler list, whose handlers are numbered so by its bytes
  pub record HasList (b : List ℕ) (o : ℕ) (numbers : List (Option ℕ)) : Type 0 where
    pub handlers : List NumberedHandler
    pub is : IsListAt starts types b o handlers numbers

  -- each try has the handler of its number, which is where its try_item says, counted from the start of the list at
  -- another offset; the try_items are at offset o
  pub record AreListed (b : List ℕ) (o list : ℕ) (hs : List NumberedHandler) (ts : List Try) : Type 0 where
    pub each : (j : ℕ) (d : Try) → j < length ts
        → IsHandlerAt b (list + ushort_at b (o + 8 * j + 6))
        (slice_index_or hs (slice_index_or ts j d).handler no_handler)
    pub formed : All IsFormedHandler hs
    pub within : All (λ t. t.handler < length hs) ts

  -- there are such handlers
  pub record HaveListed (b : List ℕ) (o list : ℕ) (ts : List Try) : Type 0 where
    pub handlers : List NumberedHandler
    pub are : AreListed b o list handlers ts

  -- a handler whose number is known by its offset from the start of the list at offset o has this number
  pub record AreKnown (b : List ℕ) (o : ℕ) (hs : List NumberedHandler) (numbers : List (Option ℕ)) : Type 0 where
    pub each : (off k : ℕ) → slice_index_or numbers off None ≡ Some k
        → (k < length hs) × ((h : NumberedHandler) → IsHandlerAt b (o + off) h → slice_index_or hs k no_handler ≡ h)

  -- the handler has the number k, which is after those of the old handlers if none of these is the same
  pub record IsNumberOf (b : List ℕ) (o : ℕ) (h : NumberedHandler) (old new : List NumberedHandler)
      (numbers : List (Option ℕ)) (k : ℕ) : Type 0 where
    pub known : AreKnown b o new numbers
    pub keys : new ≡ insert_key same_handler old h
    pub number : k < length new
    pub is : slice_index_or new k no_handler ≡ h

-- a number was put at a place
pub record IsPutAt (place number : ℕ) (old new : List (Option ℕ)) : Type 0 where
  pub here : slice_index_or new place None ≡ Some number
  pub others : (k : ℕ) → k ≢ place → slice_index_or new k None ≡ slice_index_or old k None
