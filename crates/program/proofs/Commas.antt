-- Digits with commas between groups of three.
use Rattle.std.proofs.Common.{◌≡◌, ◌==◌, ◌%◌, ◌+◌, ◌^◌, ◌<◌, ℕ, Bool, true, false, cond, [], ◌∷◌, ◌++◌, ap, arith, codes, drop, get_or, length}
use Rattle.std.proofs.lemmas.List.{drop_more}
use Rattle.std.proofs.lemmas.Str.{IsAscii-append, IsAscii-drop, IsUtf8-from_ascii}
use Rattle.std.proofs.lemmas.Str.Ascii.{IsAscii-cons, IsAscii-nil}
use Rattle.std.proofs.lemmas.Fmt.{IsAscii-decimal}
use Rattle.std.specs.Str.{IsAscii, IsUtf8}
use Rattle.outside.specs.Events.{Bytes}
use Rattle.program.specs.Summaries.{comma_if, grouped, with_commas}

-- a digit more
pub commas_next : (ds : Bytes) (i d : ℕ) → i < length ds
    → with_commas (drop i ds) ≡ get_or ds i d ∷ (comma_if (drop (i + 1) ds) ++ with_commas (drop (i + 1) ds))
commas_next ds i d lt = ap with_commas (drop_more ds i d lt)

comma_ascii : (b : Bool) → IsAscii (cond b (codes ",") [])
comma_ascii true = IsAscii-cons 44 [] (omega arith) IsAscii-nil
comma_ascii false = IsAscii-nil

comma_if_ascii : (ds : Bytes) → IsAscii (comma_if ds)
comma_if_ascii [] = IsAscii-nil
comma_if_ascii (d ∷ ds) = comma_ascii (length (d ∷ ds) % 3 == 0)

with_commas_ascii : (ds : Bytes) → IsAscii ds → IsAscii (with_commas ds)
with_commas_ascii [] are = IsAscii-nil
with_commas_ascii (d ∷ ds) are =
    IsAscii-cons d (comma_if ds ++ with_commas ds) (are 0)
    (IsAscii-append (comma_if ds) (with_commas ds) (comma_if_ascii ds) (with_commas_ascii ds (IsAscii-drop (d ∷ ds) 1 are)))

-- such a number is a text
pub grouped_utf8 : (n : ℕ) → n < 2 ^ 64 → IsUtf8 (grouped n)
grouped_utf8 n fits = IsUtf8-from_ascii (grouped n) (with_commas_ascii _ (IsAscii-decimal n fits))
