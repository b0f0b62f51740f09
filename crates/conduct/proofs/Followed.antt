-- From what is read and answered to what is done for an order.
use Rattle.std.proofs.Common.{Bool, ◌≡◌, ◌∙◌, ◌++◌, ◌∷◌, [], ℕ, List, Option, Some, None, All, ap, append_assoc, codes, inl, inr, length, sym, subst, Result, Ok, Err}
use Rattle.std.specs.Prelude.{slice_get}
use Rattle.std.proofs.lemmas.List.Elements.{All-append}
use Rattle.checking.specs.declared.task.Task.{Task}
use Rattle.conduct.specs.declared.reading.Unread.{Unread}
use Rattle.conduct.specs.declared.reading.Unread.TheVariants as unread
use Rattle.conduct.specs.Ending.{EndsBy}
use Rattle.conduct.specs.Jobs.{IsAnswer, IsAnswered, IsJobAnswered, IsTold}
use Rattle.conduct.specs.declared.manner.Manner.{Manner}
use Rattle.conduct.specs.Manner.{origin}
use Rattle.conduct.specs.Reading.{AreReadThen, IsStopped, IsUnread, IsUnreadTold, line_unread, reads_of}
use Rattle.conduct.proofs.Behind.{EndsBy-behind, EndsBy-weaker, are_quiet, quiet_nothing}
use Rattle.jobs.specs.declared.answering.Answered.{Answered}
use Rattle.jobs.specs.declared.job.Job.{Job}
use Rattle.jobs.specs.declared.job.RunOptions.{RunOptions}
use Rattle.jobs.specs.Tasks.{IsJobOf, options_asked}
use Rattle.outside.specs.Events.{Bytes, Event, IsQuiet, reads, says}

pub job_answered : (paths shown : List Bytes) (history : Option Bytes) (options : RunOptions) (job : Job) (told : Answered)
    (es : List Event) (status : ℕ)
    → shown ≡ paths → IsAnswer shown options job told → IsTold history told es status → IsJobAnswered paths history options job es status
job_answered paths shown history options job told es status same answer is =
    (told, subst (λ (ps : List Bytes). IsAnswer ps options job told) same answer, is)

pub texts_answered : {E : Type 0} (keyed : Bool) (task : Task) (paths : List Bytes) (history : Option Bytes) (texts : List Bytes)
    (job : Job) (options : RunOptions) (es : List Event)
    (r : Result ℕ E) → options ≡ options_asked task → IsJobOf task texts job → EndsBy (IsJobAnswered paths history options job) es r
    → EndsBy (IsAnswered keyed task paths history texts) es r
texts_answered keyed task paths history texts job options es r asked of ends =
    EndsBy-weaker (IsJobAnswered paths history options job) (IsAnswered keyed task paths history texts) es r
    (λ status is. inl (job, of, subst (λ (o : RunOptions). IsJobAnswered paths history o job es status) asked is)) ends

-- what follows once the files are read
pub all_read : {E : Type 0} (m : Manner) (P : List Bytes → List Event → ℕ → Type 0) (paths shown texts : List Bytes) (es rest : List Event)
    (r : Result ℕ E) → shown ≡ paths → length texts ≡ length shown → es ≡ reads_of m shown texts → EndsBy (P texts) rest r
    → EndsBy (AreReadThen m paths P) (es ++ rest) r
all_read m P paths shown texts es rest r same many is ends =
    EndsBy-behind (P texts) (AreReadThen m paths P) es rest r (are_quiet m shown texts es is)
    (λ status follows. inr (
      texts,
      rest,
      many ∙ ap length same,
      ap (λ (f : List Event). f ++ rest) (is ∙ ap (λ (ps : List Bytes). reads_of m ps texts) same),
      follows,
    ))
    ends

-- the line that says which file can't be read
pub unread_told : {E : Type 0} (m : Manner) (paths shown texts : List Bytes) (u : Unread) (es fs : List Event) (r : Result ℕ E)
    → shown ≡ paths → IsStopped m shown texts es u → IsUnreadTold m u fs r → EndsBy (IsUnread m paths) (es ++ fs) r
unread_told m paths shown texts (unread.File path why) es fs (Ok status) same read told =
    let line = says (line_unread m path.now why) in
    let failed = reads (origin m path.now) (Err why) in (
      texts,
      path.now,
      why,
      subst (λ (ps : List Bytes). slice_get ps (length texts) ≡ Some path.now) same read.0,
      ap (λ (f : List Event). es ++ f) told.0 ∙ (ap (λ (f : List Event). f ++ line ∷ []) read.1
          ∙ (append_assoc (reads_of m shown texts) (failed ∷ []) (line ∷ [])
          ∙ ap (λ (ps : List Bytes). reads_of m ps texts ++ (failed ∷ line ∷ [])) same)),
      told.1,
    )
unread_told m paths shown texts (unread.File path why) es fs (Err e) same read told = absurd told
unread_told m paths shown texts unread.NoMemory es fs (Ok status) same read told = absurd told
unread_told m paths shown texts unread.NoMemory es fs (Err e) same read told =
    All-append IsQuiet es fs read (subst (λ (f : List Event). All IsQuiet f) (sym told) quiet_nothing)

-- where one can't be read
pub one_unread : {E : Type 0} (m : Manner) (P : List Bytes → List Event → ℕ → Type 0) (paths shown texts : List Bytes) (u : Unread)
    (es fs : List Event) (r : Result ℕ E) → shown ≡ paths → IsStopped m shown texts es u → IsUnreadTold m u fs r
    → EndsBy (AreReadThen m paths P) (es ++ fs) r
one_unread m P paths shown texts u es fs r same read told =
    EndsBy-weaker (IsUnread m paths) (AreReadThen m paths P) (es ++ fs) r (λ status is. inl is)
    (unread_told m paths shown texts u es fs r same read told)
