use Rattle.std.proofs.Common.{◌≡◌, ℕ, ◌+◌, List, [], ◌∷◌, ◌++◌, ◌∙◌, arith, inl, inr, subst}
use Rattle.std.proofs.Common.{sym}
use Rattle.std.proofs.Common.{length-append}
use Rattle.gate_files.specs.declared.names.Outputs.{Outputs}
use Rattle.gate_files.specs.CommandOf.{folder_value}
use Rattle.gate_files.specs.Names.{AreNamesOf, AreNames}
use Rattle.gate_files.specs.Words.{FolderWords}
use Rattle.gate_files.proofs.Lists.{pushed_at}
use Rattle.gate_files.proofs.names.sessions_in.Goals as goal

one_more : (out : FolderWords) (session : ℕ) (names pushed : List Outputs) (own : Outputs)
    → AreNames out session names → AreNamesOf out session own → pushed ≡ names ++ own ∷ []
    → AreNames out (session + 1) pushed
one_more out session names pushed own so_far one is =
    subst (λ (all : List Outputs). AreNames out (session + 1) all) (sym is) (record {
      many = omega (arith, length-append names (own ∷ []), so_far.many);
      each = λ place o at. elim (pushed_at names own place o at) [
        | inl here ↦ so_far.each place o here
        | inr last ↦ subst (λ (v : Outputs). AreNamesOf out place v) last.1
            (subst (λ (n : ℕ). AreNamesOf out n own) (sym (last.0 ∙ so_far.many)) one)
      ];
    })

pub loop-session-preserved : goal.loop-session-preserved
loop-session-preserved c =
    one_more (folder_value c.args.out) c.loop-session.session _ _ c.in_ok-own.own c.loop-session.invariant
    c.in_ok-own.ensures c.in-Ok.ensures.items
