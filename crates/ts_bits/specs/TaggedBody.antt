-- One descriptor as a value.
-- ISO/IEC 13818-1, 2.6: descriptor_tag 8, descriptor_length 8, then that many bytes.
use Rattle.std.specs.Prelude.{ℕ, ◌<◌, ◌≤◌, List, ◌∷◌, length, All}
use Rattle.std.specs.List.{flat_map}

-- a tag and the bytes after the length
pub record TaggedBody : Type 0 where
  pub tag : ℕ
  pub body : List ℕ

-- a tag and a body that a descriptor has room for
pub record IsDescriptor (d : TaggedBody) : Type 0 where
  pub tag : d.tag < 256
  pub room : length d.body ≤ 255
  pub bytes : All (λ x. x < 256) d.body

-- the bytes of one descriptor
abbrev pub descriptor_bytes : TaggedBody → List ℕ
descriptor_bytes d = d.tag ∷ length d.body ∷ d.body

-- the bytes of descriptors one after another
abbrev pub loop_bytes : List TaggedBody → List ℕ
loop_bytes ds = flat_map descriptor_bytes ds
