-- Words of text.
--
-- behind prefix word  what stands behind this prefix of a word, or none where the word does not begin with it
-- parts cs            the characters between white space, but for where there are none
-- words line          the words of a line: what stands between white space
use Rattle.std.specs.Prelude.{ℕ, List, length, drop, map, filter, nat_eq, nat_lt, Option, Some, None, if◌then◌else◌}
use Rattle.std.specs.Char.{is_whitespace}
use Rattle.std.specs.List.{starts_with, slice_split}
use Rattle.std.specs.Str.{chars, encode_utf8_all}

abbrev pub behind : List ℕ → List ℕ → Option (List ℕ)
behind prefix word = if starts_with nat_eq word prefix then Some (drop (length prefix) word) else None

abbrev pub parts : List ℕ → List (List ℕ)
parts cs = filter (λ part. nat_lt 0 (length part)) (slice_split is_whitespace cs)

abbrev pub words : List ℕ → List (List ℕ)
words line = map encode_utf8_all (parts (chars line))
