use Rattle.pp_term.specs.Meanings.{mode_of, program, shape_of}
use Rattle.pp_explore.proofs.Standing.{map_ok}
use Rattle.pp_infer.proofs.Found.{whole_verdict}
use Rattle.pp_infer.proofs.workers.infer_with.Goals as goal

pub returns : goal.returns
returns g c =
    let s = c.in_ok-search.search in
    let made = c.in_ok-search.ensures in record {
      verdict = map_ok c.search_with.result
          (λ v e. rw made.clauses at (rw made.shape at (rw made.mode at (rw made.face at (rw made.depth at (whole_verdict (program s.clauses.now) (shape_of s.shape) s.face s.depth (mode_of s.findings.mode) s.findings.call v s.called (rw c.root.ensures at e)))))))
          c.search_with.ensures.outcome;
    }
