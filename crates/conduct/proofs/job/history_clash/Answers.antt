use Rattle.std.proofs.Common.{◌++◌, ℕ, List, Bor, ap, codes, option_map}
use Rattle.conduct.proofs.job.history_clash.Goals as goal

pub returns-in-Some : goal.returns-in-Some
returns-in-Some g c =
    rw (ap (option_map (λ (s : Bor (List ℕ)). s.now)) c.in_ok-path.was)
    (c.in-Some.ensures (λ other. c.in_ok-path.path.now ++ codes ": cannot write"))

pub returns-in-None : goal.returns-in-None
returns-in-None g c =
    rw (ap (option_map (λ (s : Bor (List ℕ)). s.now)) c.in_ok-path.was)
    (c.in-None.ensures (λ other. c.in_ok-path.path.now ++ codes ": cannot write"))
