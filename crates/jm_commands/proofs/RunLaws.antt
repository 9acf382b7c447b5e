-- What a run does, from what its step did.
use Rattle.std.proofs.Common.{◌≡◌, inl, inr, ℕ, List, Option, Some, None, Result, Ok, Err, refl, sym, ap, ◌∙◌, subst}
use Rattle.jm_outside.proofs.MadeLaws.{part_of_all}
use Rattle.jm_jrt.specs.declared.serve_error.ServeError.{ServeError}
use Rattle.jm_jrt.specs.declared.serve_error.ServeError.TheVariants as serve_error
use Rattle.jm_inspect.specs.declared.complaint.Complaint.{Complaint}
use Rattle.jm_inspect.specs.declared.complaint.Complaint.TheVariants as complaint
use Rattle.jm_inspect.specs.declared.status.Status.{Status}
use Rattle.jm_inspect.specs.declared.status.Status.TheVariants as status
use Rattle.jm_inspect.specs.declared.stop.Stop.{Stop}
use Rattle.jm_inspect.specs.declared.stop.Stop.TheVariants as stop
use Rattle.jm_inspect.specs.FailedBefore.{LineFailed}
use Rattle.jm_inspect.specs.Outcome.{Early, Outcome}
use Rattle.jm_commands.specs.Run.{DoesAll, DoesFront, EndsStep, EndsWith, ReportDoes, RunComesTo, RunDoes}
use Rattle.jm_inspect.specs.Steps.{StepComesTo, StepDoes, status_of}
use Rattle.jm_inspect.specs.SessionHeld.{EndsAs, EndsBroken, SourceRead, StopsAs}
use Rattle.jm_inspect.specs.Sinks.{Failed, Gets, GetsFront, Seen}
use Rattle.jm_inspect.specs.Stops.{stop_of_session}
use Rattle.jm_inspect.specs.Texts.{line_of}
use Rattle.jm_inspect.specs.World.{World}
use Rattle.jm_inspect.proofs.Gotten.{front_of_all, front_of_nothing, gets_nothing}
use Rattle.jm_inspect.proofs.StepLaws.{complains_undone}

-- a run that reports a complaint isn't done
reported_undone : (given : Complaint) (is : Status) (err new_err : Seen (List ℕ)) → ReportDoes given is err new_err → is ≡ status.Done → ⊥
reported_undone given is err new_err report done =
    complains_undone given (subst (λ (s : Status). ReportDoes given s err new_err) done report).0

-- a complaint has a line, so the error sink may fail
line_failed : (given : Complaint) (err new_err : Seen (List ℕ)) → Failed err new_err → LineFailed (status_of given) err new_err
line_failed (complaint.Words fault) err new_err failed = failed
line_failed (complaint.Damaged damage) err new_err failed = failed
line_failed (complaint.NotThere text) err new_err failed = failed
line_failed (complaint.NoNode name) err new_err failed = failed
line_failed (complaint.BadNodeAt name at) err new_err failed = failed
line_failed (complaint.Refused refusal) err new_err failed = failed
line_failed (complaint.BadNode at) err new_err failed = failed
line_failed complaint.NotFolder err new_err failed = failed
line_failed (complaint.LongLine k) err new_err failed = failed
line_failed complaint.TooManyLines err new_err failed = failed

-- the line of a complaint was put
pub reported : (given : Complaint) (is : Status) (err new_err : Seen (List ℕ)) → is ≡ status_of given → Gets (line_of given) err new_err
    → ReportDoes given is err new_err
reported given is err new_err same puts = subst (λ (s : Status). ReportDoes given s err new_err) (sym same) (go given puts)
  where
    go : (g : Complaint) → Gets (line_of g) err new_err → ReportDoes g (status_of g) err new_err
    go (complaint.Words fault) puts = (refl, puts)
    go (complaint.Damaged damage) puts = (refl, puts)
    go (complaint.NotThere text) puts = (refl, puts)
    go (complaint.NoNode name) puts = (refl, puts)
    go (complaint.BadNodeAt name at) puts = (refl, puts)
    go (complaint.Refused refusal) puts = (refl, puts)
    go (complaint.BadNode at) puts = (refl, puts)
    go complaint.NotFolder puts = (refl, puts)
    go (complaint.LongLine k) puts = (refl, puts)
    go complaint.TooManyLines puts = (refl, puts)

-- What was read from the source

source_map : (session : Option (List ℕ)) (Ends Also : Result ℕ ServeError → Type 0) (old new : World)
    → ((answered : Result ℕ ServeError) → Ends answered → Also answered) → SourceRead session Ends old new → SourceRead session Also old new
source_map None Ends Also old new f read = read
source_map (Some b) Ends Also old new f held = record {
  answered = held.answered;
  ends = f held.answered held.ends;
  ended_by =
      held.ended_by;
  reads = held.reads;
  new_reads = held.new_reads;
  serves = held.serves;
}

-- the status of the run of a session whose step had no complaint, so nothing was put to the error
-- sink
abbrev EndsPlain : Seen (List ℕ) → Result (Unit {0}) Stop → Result ℕ ServeError → Type 0
EndsPlain err (Ok _) answered = EndsAs status.Done err err answered
EndsPlain err (Err stop.Outside) answered = EndsAs status.Outside err err answered
EndsPlain err (Err stop.Memory) answered = EndsAs status.Memory err err answered
EndsPlain err (Err (stop.Complaint given)) answered = Unit {0}

ends_plain : (err : Seen (List ℕ)) (stopped : Result (Unit {0}) Stop) (answered : Result ℕ ServeError) → StopsAs stopped answered
    → EndsPlain err stopped answered
ends_plain err stopped answered stops =
    subst (λ (s : Result (Unit {0}) Stop). EndsPlain err s answered) (sym stops) (go answered)
  where
    go : (answered : Result ℕ ServeError) → EndsPlain err (stop_of_session answered) answered
    go (Ok n) = refl
    go (Err serve_error.ReadFault) = refl
    go (Err serve_error.WriteFault) = refl
    go (Err (serve_error.LongLine k)) = tt
    go (Err serve_error.TooManyLines) = tt
    go (Err serve_error.Memory) = refl

-- the status of a complaint
abbrev status_in : Result (Unit {0}) Stop → Status
status_in (Err (stop.Complaint given)) = status_of given
status_in _ = status.Done

module _ (given : Complaint) (err new_err : Seen (List ℕ)) where
  broken : (is : Status) → ReportDoes given is err new_err → status_of given ≡ status.Session → EndsBroken is err new_err
  broken status.Outside report same = inr (inl (refl, report.1))
  broken status.Memory report same = inr (inr refl)
  broken status.Done report same = inl (report.0 ∙ same)
  broken status.Words report same = inl (report.0 ∙ same)
  broken status.Refused report same = inl (report.0 ∙ same)
  broken status.Damaged report same = inl (report.0 ∙ same)
  broken status.NotThere report same = inl (report.0 ∙ same)
  broken status.Session report same = inl refl

  ends_complaint : (is : Status) → ReportDoes given is err new_err → (answered : Result ℕ ServeError)
      → StopsAs (Err (stop.Complaint given)) answered → EndsAs is err new_err answered
  ends_complaint is report (Ok n) stops = cc
  ends_complaint is report (Err serve_error.ReadFault) stops = cc
  ends_complaint is report (Err serve_error.WriteFault) stops = cc
  ends_complaint is report (Err (serve_error.LongLine k)) stops = broken is report (ap status_in stops)
  ends_complaint is report (Err serve_error.TooManyLines) stops = broken is report (ap status_in stops)
  ends_complaint is report (Err serve_error.Memory) stops = cc

-- The whole run

module _ (early : Early) (due : Outcome) (old new : World) where
  -- the step did its work
  pub ran_done : (err : Seen (List ℕ)) → StepDoes early due (Ok tt) old new → RunDoes early due status.Done old new err err
  ran_done err step = record {
    ends = (
      sym step.answers.0,
      record {
        output = step.output;
        line = subst (λ (text : List ℕ). Gets text err err) (sym step.answers.1) (gets_nothing err err refl);
        files = step.files.stand;
        durable = λ done. step.files.durable;
      },
    );
    source = source_map due.session (StopsAs (Ok tt)) (EndsAs status.Done err err) old new (ends_plain err (Ok tt)) step.source;
    none_rose = λ done. (step.none_rose refl, refl);
  }

  -- the outside failed
  pub ran_outside : (err : Seen (List ℕ)) → StepDoes early due (Err stop.Outside) old new → RunDoes early due status.Outside old new err err
  ran_outside err step = record {
    ends = (
      record {
        output = step.output;
        line = front_of_nothing due.line err err refl;
        files = step.files;
        files_first =
            step.files_first;
      },
      inl (step.outside refl),
    );
    source = source_map due.session (StopsAs (Err stop.Outside)) (EndsAs status.Outside err err) old new
        (ends_plain err (Err stop.Outside)) step.source;
    none_rose = λ done. cc;
  }

  -- no memory was found
  pub ran_memory : (err : Seen (List ℕ)) → StepDoes early due (Err stop.Memory) old new → RunDoes early due status.Memory old new err err
  ran_memory err step = record {
    ends = record {
      output = step.output;
      line = front_of_nothing due.line err err refl;
      files = step.files;
      files_first =
          step.files_first;
    };
    source = source_map due.session (StopsAs (Err stop.Memory)) (EndsAs status.Memory err err) old new
        (ends_plain err (Err stop.Memory)) step.source;
    none_rose = λ done. cc;
  }

  -- a complaint was reported
  pub ran_complaint : (given : Complaint) (is : Status) (err new_err : Seen (List ℕ)) → StepDoes early due (Err (stop.Complaint given))
      old new → ReportDoes given is err new_err → RunDoes early due is old new err new_err
  ran_complaint given is err new_err step report = record {
    ends = go is report;
    source = source_map due.session (StopsAs (Err (stop.Complaint given))) (EndsAs is err new_err) old new
        (ends_complaint given err new_err is report) step.source;
    none_rose = λ done. absurd (reported_undone given is err new_err report done);
  }
    where
      all : Gets (line_of given) err new_err → DoesAll due old new err new_err
      all put = record {
        output = step.output;
        line = subst (λ (text : List ℕ). Gets text err new_err) (sym step.answers.1) put;
        files = step.files;
        durable = λ done. absurd (complains_undone given (sym done ∙ step.answers.0));
      }

      front : GetsFront (line_of given) err new_err → DoesFront due old new err new_err
      front put = record {
        output = front_of_all due.output old.out new.out step.output;
        line = subst (λ (text : List ℕ). GetsFront text err new_err) (sym step.answers.1) put;
        files = part_of_all due.writes old.shelf.told new.shelf.told step.files.made;
        files_first = step.files_first;
      }

      go : (s : Status) → ReportDoes given s err new_err → EndsWith early due s old new err new_err
      go status.Outside report = (
        front report.0,
        inr (subst (λ (s : Status). LineFailed s err new_err) (sym step.answers.0)
            (line_failed given err new_err report.1)),
      )
      go status.Memory report = front report
      go status.Done report = (report.0 ∙ sym step.answers.0, all report.1)
      go status.Words report = (report.0 ∙ sym step.answers.0, all report.1)
      go status.Refused report = (report.0 ∙ sym step.answers.0, all report.1)
      go status.Damaged report = (report.0 ∙ sym step.answers.0, all report.1)
      go status.NotThere report = (report.0 ∙ sym step.answers.0, all report.1)
      go status.Session report = (report.0 ∙ sym step.answers.0, all report.1)

-- from what a step comes to, whatever is due
module _ (Due : Outcome → Type 0) (early : Early) (old new : World) where
  comes_done : (err : Seen (List ℕ)) → StepComesTo Due early (Ok tt) old new → RunComesTo Due early status.Done old new err err
  comes_done err (inl fails) = absurd fails.failed
  comes_done err (inr (due, is, step)) = inr (due, is, ran_done early due old new err step)

  comes_outside : (err : Seen (List ℕ)) → StepComesTo Due early (Err stop.Outside) old new → RunComesTo Due early status.Outside old
      new err err
  comes_outside err (inl fails) = inl (record {
    failed = inl refl;
    files = fails.files;
    source = fails.source;
    output = fails.output;
    line = refl;
    outside = λ failed. fails.outside refl;
  })
  comes_outside err (inr (due, is, step)) = inr (due, is, ran_outside early due old new err step)

  comes_memory : (err : Seen (List ℕ)) → StepComesTo Due early (Err stop.Memory) old new → RunComesTo Due early status.Memory old
      new err err
  comes_memory err (inl fails) = inl (record {
    failed = inr refl;
    files = fails.files;
    source = fails.source;
    output =
        fails.output;
    line = refl;
    outside = λ failed. cc;
  })
  comes_memory err (inr (due, is, step)) = inr (due, is, ran_memory early due old new err step)

  comes_complaint : (given : Complaint) (is : Status) (err new_err : Seen (List ℕ))
      → StepComesTo Due early (Err (stop.Complaint given)) old new → ReportDoes given is err new_err
      → RunComesTo Due early is old new err new_err
  comes_complaint given is err new_err (inl fails) report = absurd fails.failed
  comes_complaint given is err new_err (inr (due, comes, step)) report = inr (
    due,
    comes,
    ran_complaint early due old new given is err
        new_err step report,
  )

  pub comes_ended : (answer : Result (Unit {0}) Stop) (is : Status) (err new_err : Seen (List ℕ))
      → StepComesTo Due early answer old new → EndsStep answer is err new_err → RunComesTo Due early is old new err new_err
  comes_ended (Ok _) is err new_err step (same, stays) = rw (same, stays) (comes_done err step)
  comes_ended (Err (stop.Complaint given)) is err new_err step report = comes_complaint given is err new_err step report
  comes_ended (Err stop.Outside) is err new_err step (same, stays) = rw (same, stays) (comes_outside err step)
  comes_ended (Err stop.Memory) is err new_err step (same, stays) = rw (same, stays) (comes_memory err step)
