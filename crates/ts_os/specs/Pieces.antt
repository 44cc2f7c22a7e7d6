-- How much of a file is moved at once, by what kind of file it is. This project's own rule. The types of files are those of
-- POSIX (<sys/stat.h>: `S_IFMT`, `S_IFREG` and `S_IFSOCK`), with the numbers that Linux has for them (inode(7)).
use Rattle.std.specs.Prelude.{ℕ, ◌==◌, ◌*◌, ◌-◌, Option, None, Some, bit_and, if◌then◌else◌, min}
use Rattle.std.specs.Option.{option_map, unwrap_or}
use Rattle.ts_packet.specs.declared.numbers.TheConstants.{PACKET_SIZE}
use Rattle.ts_os.specs.declared.file_kind.FileKind.{FileKind}
use Rattle.ts_os.specs.declared.file_kind.FileKind.TheVariants.{Regular, Socket, Other, Untold}

-- the kind of a file whose mode the system told
abbrev pub kind_of_mode : ℕ → FileKind
kind_of_mode mode =
    if bit_and mode 0o170000 == 0o100000 then Regular
    else (if bit_and mode 0o170000 == 0o140000 then Socket else Other)

-- the most packets of one write to a file of this kind; `None` where there is no such bound. 21 packets are 3,948 bytes, less
-- than the 4,096 of `PIPE_BUF`, which a pipe takes whole or not at all; seven are what a datagram has
abbrev pub packets_at_once : FileKind → Option ℕ
packets_at_once Regular = None
packets_at_once Socket = Some 7
packets_at_once Other = Some 21
packets_at_once Untold = Some 7

-- how many bytes of a piece of so many the next write gives to a file of this kind, where it took so many bytes of a packet
-- before: as many as end with the last packet that a write may have, or all, where these are fewer
abbrev pub bytes_at_once : FileKind → ℕ → ℕ → ℕ
bytes_at_once kind begun bytes =
    unwrap_or (option_map (λ packets. min bytes (PACKET_SIZE * packets - begun)) (packets_at_once kind)) bytes

-- for how many bytes the system is asked at least, of an input that is no regular file
abbrev pub ahead_size : ℕ
ahead_size = 65536
