-- The sizes of a run. This project's own rule: a size that the words give is used as given; one that they do not give is
-- the program's own choice, at most the option's default. No byte and no line depends on them.
use Rattle.std.specs.Prelude.{◌≡◌, ◌≤◌, ℕ, min, Option, None, Some, unwrap_or}
use Rattle.chain_args.specs.declared.general_conf.GeneralConf.{GeneralConf}

-- the defaults of the options: packets of the buffer, and packets that a stage takes at a time
abbrev pub default_buffer : ℕ
default_buffer = 89240

abbrev pub default_batch : ℕ
default_batch = 10000

-- a size that is given is used; one that is not given is some number, at most the default
abbrev pub IsSize : Option ℕ → ℕ → ℕ → Type 0
IsSize (Some given) default size = size ≡ given
IsSize None default size = (1 ≤ size) × (size ≤ default)

-- how many packets a stage takes at a time: the lesser of the two options, one that is not given counted by its default;
-- nothing is said where neither is given
abbrev pub lesser_batch : Option ℕ → Option ℕ → Option ℕ
lesser_batch None None = None
lesser_batch (Some input) None = Some (min input default_batch)
lesser_batch None (Some flushed) = Some (min default_batch flushed)
lesser_batch (Some input) (Some flushed) = Some (min input flushed)

-- the most packets that the buffer may have
abbrev pub most_buffer : GeneralConf → ℕ
most_buffer general = unwrap_or general.buffer_packets default_buffer
