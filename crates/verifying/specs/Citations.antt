-- Citations: the substitution of variables, and the tests of an assertion that is cited over expressions (Metamath book, sections 4.1.4 and
-- 4.2.5 to 4.2.7).
use Rattle.std.specs.Prelude.{Bool, true, false, ◌&&◌, ◌||◌, List, [], ◌∷◌, drop, filter, find, Option, Some, None}
use mathlib.Core.Bool.{not}
use Rattle.std.specs.Option.{option_map_or}
use Rattle.std.specs.List.{list_any, list_all, zip, filter_map, flat_map}
use Rattle.std.specs.Cmp.Lexicographic.{pointwise}
use Rattle.std.specs.Str.{bytes_eq}
use Rattle.mmtext.specs.Words.{Word}
use Rattle.source.specs.Scopes.{Hypothesis, typing, premise, Pair, Assertion, is_float_of, mandatory_pairs}

-- ---- expressions

-- symbols of the source, of which the first is a constant (section 4.2.5)
abbrev pub Expression : Type 0
Expression = List Word

abbrev pub same_expression : Expression → Expression → Bool
same_expression d e = pointwise bytes_eq d e

-- what a hypothesis says: of a $f its type and its variable
abbrev pub said_by : Hypothesis → Expression
said_by (typing label c v) = c ∷ v ∷ []
said_by (premise label ws) = ws

-- ---- substitution (section 4.1.4)

-- each variable with what stands for it
abbrev pub Substitution : Type 0
Substitution = List (Word × Expression)

-- what stands for the variable of a $f: the expression in its place without its type, which may be empty
abbrev pub substitute : Hypothesis → Expression → Option (Word × Expression)
substitute (typing label c v) e = Some (v, drop 1 e)
substitute (premise label ws) e = None

-- the $f of an assertion, wherever they stand among its mandatory hypotheses, give the substitution
abbrev pub substitution : Assertion → List Expression → Substitution
substitution c es = filter_map (λ p. substitute p.0 p.1) (zip c.hypotheses es)

-- what stands for a symbol of the cited assertion. Its variables are those of its own mandatory $f, whatever else has their names where it
-- is cited; any other symbol of it is a constant, and stands for itself
abbrev pub replacement : Substitution → Word → Expression
replacement s w = option_map_or (λ p. p.1) (find (λ p. bytes_eq w p.0) s) (w ∷ [])

-- all variables at once: what comes in is not replaced again
abbrev pub subst : Substitution → Expression → Expression
subst s e = flat_map (replacement s) e

-- ---- the tests of a citation (section 4.1.4), in their order

-- an expression in the place of a $f begins with its type
abbrev pub begins_with : Word → Expression → Bool
begins_with c [] = false
begins_with c (d ∷ e) = bytes_eq c d

abbrev pub has_type : Hypothesis → Expression → Bool
has_type (typing label c v) e = begins_with c e
has_type (premise label ws) e = true

abbrev pub types_fit : Assertion → List Expression → Bool
types_fit c es = list_all (λ p. has_type p.0 p.1) (zip c.hypotheses es)

-- an expression in the place of a $e is that $e after substitution
abbrev pub is_instance : Substitution → Hypothesis → Expression → Bool
is_instance s (typing label c v) e = true
is_instance s (premise label ws) e = same_expression (subst s ws) e

abbrev pub hypotheses_fit : Assertion → List Expression → Bool
hypotheses_fit c es = list_all (λ p. is_instance (substitution c es) p.0 p.1) (zip c.hypotheses es)

-- the variables of an expression in a proof: those of an active $f of the theorem
abbrev pub variables_in : Assertion → Expression → List Word
variables_in x e = filter (λ w. list_any (is_float_of w) x.active) e

-- two variables are one of the pairs, in either order
abbrev pub is_pair_of : Word → Word → Pair → Bool
is_pair_of u v p = (bytes_eq u p.0 && bytes_eq v p.1) || (bytes_eq u p.1 && bytes_eq v p.0)

-- two variables differ, and are an active pair of the theorem, be they mandatory or dummies
abbrev pub symbols_apart : Assertion → Word → Word → Bool
symbols_apart x u v = not (bytes_eq u v) && list_any (is_pair_of u v) x.pairs

-- two expressions share no variable, and each two variables, one of each, are an active pair (sections 4.1.4 and 4.2.6)
abbrev pub are_apart : Assertion → Expression → Expression → Bool
are_apart x d e = list_all (λ u. list_all (symbols_apart x u) (variables_in x e)) (variables_in x d)

-- what stands for the variables of each mandatory pair of the cited assertion is apart in the theorem
abbrev pub pairs_fit : Assertion → Assertion → List Expression → Bool
pairs_fit x c es =
    list_all (λ p. are_apart x (replacement (substitution c es) p.0) (replacement (substitution c es) p.1)) (mandatory_pairs c)
