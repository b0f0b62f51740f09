-- What is done behind what was done before.
use Rattle.std.proofs.Common.{Bool, codes, true, false, inl, ◌≡◌, ◌∙◌, ◌++◌, ◌∷◌, ◌<◌, ◌+◌, [], ℕ, List, Option, Some, None, inr, All, ap, append_assoc, append-nil, length, length-append, refl, sym, subst, arith, map, option_map, slice_index_or, Bor, Result, Ok, Err}
use Rattle.std.specs.Prelude.{slice_get}
use Rattle.std.proofs.lemmas.Option.{slice_get-get_or, slice_get-map}
use Rattle.std.proofs.lemmas.List.Elements.{All-append, All-cons, All-nil}
use Rattle.conduct.specs.Comparing.{AreApartThen, AreCompared, Clash}
use Rattle.conduct.specs.Ending.{EndsBy}
use Rattle.conduct.specs.declared.manner.Manner.{Manner}
use Rattle.conduct.specs.Manner.{is_input_twice, origin}
use Rattle.conduct.specs.Reading.{IsInputOnceThen, IsReadBehind, IsReadThen, reads_of}
use Rattle.conduct.specs.Telling.{IsMisused}
use Rattle.outside.specs.declared.reason.Reason.{Reason}
use Rattle.outside.specs.Events.{Adds, Bytes, Event, IsQuiet, compares, lacks, reads, says}

pub adds_more : {a b c : List Event → Type 0} {es fs : List Event} → Adds a b es → Adds b c fs → Adds a c (es ++ fs)
adds_more {a} {b} {c} {es} {fs} first next =
    record { behind = λ front told. subst c (append_assoc front es fs) (next.behind (front ++ es) (first.behind front told)) }

pub adds_nothing : (a : List Event → Type 0) → Adds a a []
adds_nothing a = record { behind = λ front told. subst a (sym (append-nil front)) told }

pub quiet_nothing : All IsQuiet []
quiet_nothing = All-nil IsQuiet

-- reading is quiet
pub reads_are_quiet : (m : Manner) (paths texts : List Bytes) → All IsQuiet (reads_of m paths texts)
reads_are_quiet m ps [] = All-nil IsQuiet
reads_are_quiet m [] (t ∷ ts) = All-nil IsQuiet
reads_are_quiet m (p ∷ ps) (t ∷ ts) =
    All-cons IsQuiet (reads (origin m p) (Ok t)) (reads_of m ps ts) tt (reads_are_quiet m ps ts)

-- so are events that are reads
pub are_quiet : (m : Manner) (paths texts : List Bytes) (es : List Event) → es ≡ reads_of m paths texts → All IsQuiet es
are_quiet m paths texts es is = subst (λ (done : List Event). All IsQuiet done) (sym is) (reads_are_quiet m paths texts)

-- one file more
pub reads_of-behind : (m : Manner) (paths texts : List Bytes) (path text : Bytes) → slice_get paths (length texts) ≡ Some path
    → reads_of m paths (texts ++ text ∷ []) ≡ reads_of m paths texts ++ reads (origin m path) (Ok text) ∷ []
reads_of-behind m [] [] path text is = cc
reads_of-behind m [] (t ∷ ts) path text is = cc
reads_of-behind m (p ∷ ps) [] path text is =
    let same : p ≡ path = cc in ap (λ (q : Bytes). reads (origin m q) (Ok text) ∷ []) same
reads_of-behind m (p ∷ ps) (t ∷ ts) path text is =
    ap (λ (rest : List Event). reads (origin m p) (Ok t) ∷ rest) (reads_of-behind m ps ts path text is)

-- so many files are read
pub record IsReading (m : Manner) (old new : List Event → Type 0) (paths texts : List Bytes) (k : ℕ) : Type 0 where
  pub many : length texts ≡ k
  pub done : Adds old new (reads_of m paths texts)

pub begins : (m : Manner) (now : List Event → Type 0) (paths texts : List Bytes) → texts ≡ [] → IsReading m now now paths texts 0
begins m now paths texts none =
    subst (λ (ts : List Bytes). IsReading m now now paths ts 0) (sym none) (record { many = refl; done = adds_nothing now })

pub goes_on : {A : Type 0} {old mid new : List Event → Type 0} (m : Manner) (paths texts more : List Bytes) (k : ℕ) (path : Bytes)
    (es : List Event) (done : A)
    → slice_get paths k ≡ Some path → IsReading m old mid paths texts k → Adds mid new es → IsReadBehind m path texts more es (Ok done)
    → IsReading m old new paths more (k + 1)
goes_on {A} {old} {mid} {new} m paths texts more k path es done here before adds read =
    let text = read.0 in
    let one_more : length (texts ++ text ∷ []) ≡ length texts + 1 = length-append texts (text ∷ []) in
    let is_more : length more ≡ length (texts ++ text ∷ []) = ap length read.1 in
    let many = before.many in
    let here' : slice_get paths (length texts) ≡ Some path = ap (slice_get paths) many ∙ here in
    let all : Adds old new (reads_of m paths texts ++ es) = adds_more before.done adds in
    let told : reads_of m paths more ≡ reads_of m paths texts ++ es =
    ap (reads_of m paths) read.1 ∙ (reads_of-behind m paths texts path text here'
    ∙ ap (λ (rest : List Event). reads_of m paths texts ++ rest) (sym read.2)) in
    record {
      many = omega arith;
      done = subst (λ (done : List Event). Adds old new done) (sym told) all;
    }

-- memory runs out for the next
pub stops : {old mid new : List Event → Type 0} (m : Manner) (paths texts : List Bytes) (k : ℕ) (es : List Event)
    → IsReading m old mid paths texts k → Adds mid new es → All IsQuiet es → (all : List Event) × Adds old new all × All IsQuiet all
stops m paths texts k es before adds quiet = (
  reads_of m paths texts ++ es,
  adds_more before.done adds,
  All-append IsQuiet (reads_of m paths texts) es (reads_are_quiet m paths texts) quiet,
)

-- the next can't be read
pub cannot : {old mid new : List Event → Type 0} (m : Manner) (paths texts more : List Bytes) (k : ℕ) (path : Bytes) (why : Reason)
    (es : List Event)
    → slice_get paths k ≡ Some path → IsReading m old mid paths texts k → Adds mid new es → more ≡ texts
    → es ≡ reads (origin m path) (Err why) ∷ []
    → (all : List Event) × Adds old new all
    × ((slice_get paths (length more) ≡ Some path) × (all ≡ reads_of m paths more ++ reads (origin m path) (Err why) ∷ []))
cannot m paths texts more k path why es here before adds same is = (
  reads_of m paths texts ++ es,
  adds_more before.done adds,
  (
    ap (slice_get paths) (ap length same ∙ before.many) ∙ here,
    ap (λ (rest : List Event). reads_of m paths texts ++ rest) is
        ∙ ap (λ (ts : List Bytes). reads_of m paths ts ++ reads (origin m path) (Err why) ∷ []) (sym same),
  ),
)

-- the path at a place
pub path_here : (paths : List (Bor (List ℕ))) (k : ℕ) (d : Bor (List ℕ)) → k < length paths
    → slice_get (map (λ (p : Bor (List ℕ)). p.now) paths) k ≡ Some (slice_index_or paths k d).now
path_here paths k d within =
    slice_get-map (λ (p : Bor (List ℕ)). p.now) paths k ∙ ap (option_map (λ (p : Bor (List ℕ)). p.now)) (slice_get-get_or paths k d within)

-- an ending that is another one too
pub EndsBy-weaker : {E : Type 0} (P Q : List Event → ℕ → Type 0) (es : List Event) (r : Result ℕ E)
    → ((status : ℕ) → P es status → Q es status)
    → EndsBy P es r → EndsBy Q es r
EndsBy-weaker P Q es (Ok status) weaker ends = weaker status ends
EndsBy-weaker P Q es (Err e) weaker ends = ends

-- quiet things before an ending
pub EndsBy-behind : {E : Type 0} (P Q : List Event → ℕ → Type 0) (front es : List Event) (r : Result ℕ E) → All IsQuiet front
    → ((status : ℕ) → P es status → Q (front ++ es) status) → EndsBy P es r → EndsBy Q (front ++ es) r
EndsBy-behind P Q front es (Ok status) quiet weaker ends = weaker status ends
EndsBy-behind P Q front es (Err e) quiet weaker ends = All-append IsQuiet front es quiet ends

-- it is asked of more paths
pub compared_more : (xs ys : List Clash) (es fs : List Event) (found : Option Bytes) → AreCompared xs es None → AreCompared ys fs found
    → AreCompared (xs ++ ys) (es ++ fs) found
compared_more [] ys es fs found first next = subst (λ (all : List Event). AreCompared ys (all ++ fs) found) (sym first.0) next
compared_more (x ∷ xs) ys es fs found (true, rest, is, equal, end) next = cc
compared_more (x ∷ xs) ys es fs found (false, rest, is, equal, end) next =
    (false, rest ++ fs, ap (λ (all : List Event). all ++ fs) is, equal, compared_more xs ys rest fs found end next)

-- of no more than the first that are one file
pub compared_front : (xs ys : List Clash) (es : List Event) (line : Bytes) → AreCompared xs es (Some line)
    → AreCompared (xs ++ ys) es (Some line)
compared_front [] ys es line first = cc
compared_front (x ∷ xs) ys es line (true, rest, is, equal, end) = (true, rest, is, equal, end)
compared_front (x ∷ xs) ys es line (false, rest, is, equal, end) = (false, rest, is, equal, compared_front xs ys rest line end)

-- asking is quiet
pub compared_quiet : (xs : List Clash) (es : List Event) (found : Option Bytes) → AreCompared xs es found → All IsQuiet es
compared_quiet [] es found first = subst (λ (all : List Event). All IsQuiet all) (sym first.0) (All-nil IsQuiet)
compared_quiet (x ∷ xs) es found (true, rest, is, equal, end) =
    subst (λ (all : List Event). All IsQuiet all) (sym (is ∙ ap (λ (all : List Event). compares x.one x.other true ∷ all) end.0))
    (All-cons IsQuiet (compares x.one x.other true) [] tt (All-nil IsQuiet))
compared_quiet (x ∷ xs) es found (false, rest, is, equal, end) =
    subst (λ (all : List Event). All IsQuiet all) (sym is)
    (All-cons IsQuiet (compares x.one x.other false) rest tt (compared_quiet xs rest found end))

-- two paths lead to one file, which is said
pub clash_told : {E : Type 0} (xs : List Clash) (P : List Event → ℕ → Type 0) (es : List Event) (line : Bytes) (r : Result ℕ E)
    → AreCompared xs es (Some line) → r ≡ Ok 1 → EndsBy (AreApartThen xs P) (es ++ says line ∷ []) r
clash_told {E = E} xs P es line r compared is =
    subst (λ (end : Result ℕ E). EndsBy (AreApartThen xs P) (es ++ says line ∷ []) end) (sym is)
    (es, says line ∷ [], refl, inl (line, compared, (refl, refl)))

-- none do, and so it goes on
pub apart_then : {E : Type 0} (xs : List Clash) (P : List Event → ℕ → Type 0) (es rest : List Event) (r : Result ℕ E)
    → AreCompared xs es None → EndsBy P rest r → EndsBy (AreApartThen xs P) (es ++ rest) r
apart_then xs P es rest r compared ends =
    EndsBy-behind P (AreApartThen xs P) es rest r (compared_quiet xs es None compared)
    (λ status follows. (es, rest, refl, inr (compared, follows))) ends

-- one thing read is quiet
pub one_read : (from : Option Bytes) (got : Result Bytes Reason) → All IsQuiet (reads from got ∷ [])
one_read from got = All-cons IsQuiet (reads from got) [] tt (All-nil IsQuiet)

-- so is one for which there is no memory
pub one_lack : (from : Option Bytes) → All IsQuiet (lacks from ∷ [])
one_lack from = All-cons IsQuiet (lacks from) [] tt (All-nil IsQuiet)

-- what follows once a source is read
pub read_then : {E : Type 0} (m : Manner) (P : Bytes → List Event → ℕ → Type 0) (path source : Bytes) (rest : List Event) (r : Result ℕ E)
    → EndsBy (P source) rest r → EndsBy (IsReadThen m path P) (reads (origin m path) (Ok source) ∷ rest) r
read_then m P path source rest r ends =
    EndsBy-behind (P source) (IsReadThen m path P) (reads (origin m path) (Ok source) ∷ []) rest r (one_read (origin m path) (Ok source))
    (λ status is. inr (source, rest, refl, is)) ends

-- the standard input is asked for once at most, and so it goes on
pub input_once : {E : Type 0} (paths : List Bytes) (P : List Event → ℕ → Type 0) (es : List Event) (r : Result ℕ E) (twice : Bool)
    → twice ≡ is_input_twice paths → twice ≡ false → EndsBy P es r → EndsBy (IsInputOnceThen paths P) es r
input_once paths P es r twice is not ends =
    EndsBy-weaker P (IsInputOnceThen paths P) es r (λ status follows. inr (sym is ∙ not, follows)) ends

-- it isn't, which is said
pub input_twice : (paths : List Bytes) (P : List Event → ℕ → Type 0) (es : List Event) (status : ℕ) (twice : Bool)
    → twice ≡ is_input_twice paths → twice ≡ true → IsMisused (codes "- stands for the standard input, which is read once") es status
    → IsInputOnceThen paths P es status
input_twice paths P es status twice is so said = inl (sym is ∙ so, said)
