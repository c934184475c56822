-- What those hold that wait, where one comes or goes
use Rattle.std.proofs.Common.{◌≡◌, ◌+◌, ℕ, List, [], ◌∷◌, ◌++◌, ap, ◌∙◌, length, length-append, arith}
use Rattle.std.proofs.lemmas.List.Sums.{sum_by-append, sum_by-cons}
use Rattle.eu_accept.specs.declared.queue.Job.{Job}
use Rattle.eu_accept.specs.Queues.{bytes_of}

-- one comes
pub bytes_more : (before after : List Job) (job : Job) → after ≡ before ++ job ∷ [] → bytes_of after ≡ bytes_of before + job.bytes
bytes_more before after job is =
    let f : Job → ℕ = λ j. j.bytes in
    omega (arith, ap bytes_of is, sum_by-append f before (job ∷ []), sum_by-cons f job [])

pub length_more : (before after : List Job) (job : Job) → after ≡ before ++ job ∷ [] → length after ≡ length before + 1
length_more before after job is = omega (arith, ap length is, length-append before (job ∷ []))

-- one goes
pub bytes_less : (before after : List Job) (job : Job) → before ≡ job ∷ after → bytes_of before ≡ job.bytes + bytes_of after
bytes_less before after job is =
    let f : Job → ℕ = λ j. j.bytes in
    omega (arith, ap bytes_of is, sum_by-cons f job after)
