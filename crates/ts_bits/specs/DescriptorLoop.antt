-- Loops of descriptors.
-- ISO/IEC 13818-1, 2.6 (descriptor_tag 8, descriptor_length 8, then that many bytes).
use Rattle.std.specs.Prelude.{◌≡◌, ℕ, ◌+◌, ◌<◌, List, [], ◌∷◌, length, take, drop, slice_index, suc, zero, nat_lt, if◌then◌else◌, Result, Ok, Err}
use Rattle.ts_bits.specs.declared.descriptor_loop.LoopFault.{LoopFault}
use Rattle.ts_bits.specs.declared.descriptor_loop.LoopFault.TheVariants.{Cut, NoMemory}
use Rattle.ts_bits.specs.TaggedBody.{TaggedBody, loop_bytes}

-- the result with one descriptor before those that were read after it
abbrev pub behind_first : TaggedBody → Result (List TaggedBody) ℕ → Result (List TaggedBody) ℕ
behind_first d (Ok more) = Ok (d ∷ more)
behind_first d (Err offset) = Err offset

-- the descriptors in the bytes of a row from `offset` on, or where the one that passes the end begins;
-- `most` is at least the number of these bytes
unfoldable pub descriptors_from : ℕ → ℕ → List ℕ → Result (List TaggedBody) ℕ
descriptors_from most offset [] = Ok []
descriptors_from most offset (tag ∷ []) = Err offset
descriptors_from zero offset (tag ∷ size ∷ rest) = Err offset
descriptors_from (suc most) offset (tag ∷ size ∷ rest) =
    if nat_lt (length rest) size then Err offset
    else behind_first (record { tag = tag; body = take size rest }) (descriptors_from most (offset + (2 + size)) (drop size rest))

-- the descriptors that fill a row of bytes, or the offset of the first that passes its end
abbrev pub descriptors_of : List ℕ → Result (List TaggedBody) ℕ
descriptors_of row = descriptors_from (length row) 0 row

-- the result is what the row holds; out of memory says nothing about it
abbrev pub IsLoopOf : List ℕ → {L : Type 0} → (L → List TaggedBody) → Result L LoopFault → Type 0
IsLoopOf row view (Ok list) = descriptors_of row ≡ Ok (view list)
IsLoopOf row view (Err (Cut offset)) = descriptors_of row ≡ Err offset
IsLoopOf row view (Err NoMemory) = Unit {0}

-- whole descriptors are before `offset`, and the one that begins there passes the end
pub record IsCutAt (bytes : List ℕ) (offset : ℕ) : Type 0 where
  pub before : List TaggedBody
  pub whole : loop_bytes before ≡ take offset bytes
  pub begins : offset < length bytes
  pub passes : length (drop offset bytes) < 2 + slice_index (drop offset bytes) 1
