-- The meaning of the queue: the reply to each request while jobs wait, and the jobs that wait after it.
use Rattle.std.specs.Prelude.{ℕ, Bool, List, [], ◌∷◌, ◌++◌, Option, Some, None, count_by, position}
use Rattle.std.specs.List.{remove, slice_get}
use Rattle.std.specs.Str.{bytes_eq}
use Rattle.sm_queue.specs.declared.job.Job.{Job}
use Rattle.sm_queue.specs.declared.reply.Reply.{Reply}
use Rattle.sm_queue.specs.declared.reply.Reply.TheVariants.{Queued, Given, Empty, Length as ReplyLength}
use Rattle.sm_queue.specs.declared.request.Request.{Request}
use Rattle.sm_queue.specs.declared.request.Request.TheVariants.{Push, Take, Length}

-- the job waits at the key
abbrev pub is_of : List ℕ → Job → Bool
is_of key job = bytes_eq job.key key

-- the place of the key's job that has waited longest
abbrev pub oldest_of : List Job → List ℕ → Option ℕ
oldest_of jobs key = position (is_of key) jobs

-- the job at this place, and the jobs without it; if there is no place, no job, and all jobs
abbrev pub job_at : List Job → Option ℕ → Option Job
job_at jobs None = None
job_at jobs (Some place) = slice_get jobs place

abbrev pub without_job : List Job → Option ℕ → List Job
without_job jobs None = jobs
without_job jobs (Some place) = remove jobs place

-- the reply that gives a job out
abbrev pub giving : Option Job → Reply
giving None = Empty
giving (Some job) = Given job

-- the reply to a request while these jobs wait
abbrev pub reply : List Job → Request → Reply
reply jobs (Push job) = Queued
reply jobs (Take key) = giving (job_at jobs (oldest_of jobs key))
reply jobs (Length key) = ReplyLength (count_by (is_of key) jobs)

-- the jobs that wait after a request
abbrev pub after : List Job → Request → List Job
after jobs (Push job) = jobs ++ job ∷ []
after jobs (Take key) = without_job jobs (oldest_of jobs key)
after jobs (Length key) = jobs

-- the key whose shard executes the request
abbrev pub key_of_request : Request → List ℕ
key_of_request (Push job) = job.key
key_of_request (Take key) = key
key_of_request (Length key) = key
