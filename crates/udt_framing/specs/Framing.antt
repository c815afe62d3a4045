-- How a file is framed: a mark, the length that is sent, and that many bytes of the file.
use Rattle.std.specs.Prelude.{◌≡◌, ℕ, ◌^◌, ◌<◌, List, [], ◌∷◌, ◌++◌, length, take, drop}
use Rattle.std.specs.Int.{w64, to_be_bytes}
use Rattle.udt_model.specs.Emissions.{IsPrefix}

-- the four bytes that begin a frame, `UDTF`
abbrev pub mark : List ℕ
mark = 0x55 ∷ 0x44 ∷ 0x54 ∷ 0x46 ∷ []

-- the twelve bytes before those of the file: the mark, and a length in eight bytes, the highest first
unfoldable pub header_of : ℕ → List ℕ
header_of len = mark ++ to_be_bytes w64 len

-- the header of a length, and that many bytes of a file, or all of them where it has fewer
abbrev pub framed : ℕ → List ℕ → List ℕ
framed len file = header_of len ++ take len file

-- the whole frame of a file
abbrev pub framing_of : List ℕ → List ℕ
framing_of file = framed (length file) file

-- some frame begins with these bytes: that of a length of at most 64 bits, and of some file
abbrev pub BeginsFrame : List ℕ → Type 0
BeginsFrame bytes = (len : ℕ) × (file : List ℕ) × (len < 2 ^ 64) × IsPrefix bytes (framed len file)

-- these bytes are the whole frame of some file
abbrev pub IsFrame : List ℕ → Type 0
IsFrame bytes = (file : List ℕ) × (length file < 2 ^ 64) × (bytes ≡ framing_of file)

-- what follows the header
abbrev pub file_of : List ℕ → List ℕ
file_of bytes = drop 12 bytes
