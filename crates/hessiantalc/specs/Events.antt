-- What `hess_events` replies; what it leaves in the lent bytes is eventrun's `out_of`.
use Rattle.std.specs.Prelude.{ℕ, List}
use Rattle.eventrun.specs.Runs.{file_written}
use Rattle.c_reply.specs.declared.Reply.{Reply}
use Rattle.c_record.specs.Record.{written_reply}

-- of a file, with so many lent bytes
abbrev pub events_reply : List ℕ → ℕ → Reply
events_reply file lent = written_reply (file_written file lent)
