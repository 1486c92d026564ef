use Prim.Native.Nat.{ℕ}
use lib.ListN.{replicate, length-replicate}
use Rattle.caselist.proofs.FileLaws.{count-in, file-told, file-none}
use borrow.Author.Rules.{rules}
use Rattle.caselist.proofs.file_agrees.Goals as goal

pub slice_bounds-same-end : goal.slice_bounds-same-end
slice_bounds-same-end c = let h = count-in c.args.file.now c.args.lines.now (replicate {A = ℕ} 65536 0) (length-replicate {A = ℕ} 65536 0) c.lines_of_file.ensures.0 c.in-Ok.is in search rules

pub returns : goal.returns
returns c = file-told c.args.file.now c.args.lines.now (replicate {A = ℕ} 65536 0) (length-replicate {A = ℕ} 65536 0) c.lines_of_file.ensures.0 c.in-Ok.is c.lines_of_file.ensures.1 c.same.ensures

pub returns-in_default : goal.returns-in_default
returns-in_default c = file-none c.args.file.now c.args.lines.now (replicate {A = ℕ} 65536 0) (length-replicate {A = ℕ} 65536 0) c.lines_of_file.ensures.0 c.in_default.not-Ok
