-- What is told of a transaction agrees with every later history; and the replies of a legal history fit.
use Rattle.std.proofs.Common.{◌≡◌, ℕ, ◌≤◌, List, length, Ok, Err, sym, subst, arith}
use Rattle.std.specs.Prelude.{All}
use Rattle.std.proofs.lemmas.Option.{slice_get_within, get_or_from_slice_get}
use Rattle.library.specs.declared.library.Ranked.{Ranked}
use Rattle.library.specs.Library.{Setting, ShowsInOrder}
use Rattle.library.specs.Transactions.{apply}
use Rattle.library.specs.Fitting.{CommandFits}
use Rattle.library.specs.Histories.{Entry, open_entry, done_entry, EntryFits, after_front, Grows, IsSettledBefore}
use Rattle.library.specs.Agrees.{committed, read, refused, snapshot, ReadsOver}
use Rattle.library.specs.Laws.{LegalRepliesFit, AgreementStays, CommitsAreLegal}
use Rattle.librarylaws.proofs.Fitting.{replies_fit}
use Rattle.librarylaws.proofs.Fronts.{fronts_verify, settled_fronts_stay}

-- ---- it stays

-- what is so of the library at a place stays so
place_stays : (P : List Ranked → Type 0) (s : Setting) (lib0 : List Ranked) (g h : List Entry) (k : ℕ) → Grows g h → IsSettledBefore k g
    → (k ≤ length g) × P (after_front s lib0 g k) → (k ≤ length h) × P (after_front s lib0 h k)
place_stays P s lib0 g h k grows settled a =
    let longer = grows.longer in
    let within = a.0 in
    (omega arith, subst P (sym (settled_fronts_stay s lib0 g h k grows a.0 settled)) a.1)

pub agreement_stays : AgreementStays
agreement_stays s lib0 g h cs (committed n replies) grows settled (i, is, at) =
    (i, is, grows.kept i (done_entry cs replies) at (λ e. absurd cc))
agreement_stays s lib0 g h cs (read k replies) grows settled a =
    place_stays (λ lib. ReadsOver s lib cs replies) s lib0 g h k grows settled a
agreement_stays s lib0 g h cs (refused k reason) grows settled a =
    place_stays (λ lib. apply s lib cs ≡ Err reason) s lib0 g h k grows settled a
agreement_stays s lib0 g h cs (snapshot k entries) grows settled a =
    place_stays (λ lib. ShowsInOrder lib entries) s lib0 g h k grows settled a

-- ---- legal histories

pub commits_are_legal : CommitsAreLegal
commits_are_legal s lib0 h cs k replies legal (i, is, at) =
    let same : i ≡ k = omega arith in
    subst (λ n. (next : List Ranked) × (apply s (after_front s lib0 h n) cs ≡ Ok (record { library = next; replies = replies }))) same
    (legal i cs replies at)

pub legal_replies_fit : LegalRepliesFit
legal_replies_fit s lib0 h i cs replies v fit legal at =
    let e = done_entry cs replies in
    let within = slice_get_within h i e at in
    let is = get_or_from_slice_get h i e open_entry at in
    let commands : All (CommandFits s.prelude) cs = subst (EntryFits s.prelude) is (fit i open_entry within) in
    let answer = legal i cs replies at in
    replies_fit s (after_front s lib0 h i) cs (record { library = answer.0; replies = replies })
    (fronts_verify s lib0 h i v fit) commands answer.1
