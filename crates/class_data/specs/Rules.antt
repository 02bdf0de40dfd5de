-- Class data as a rule: which bytes say what, with no walk.
use Rattle.std.specs.Prelude.{ℕ, List}
use Rattle.leb128.specs.Rules.{Uleb}
use Rattle.frame.specs.declared.Frame.{Frame}
use Rattle.class_members.specs.Rules.{MembersRule}
use Rattle.class_data.specs.declared.Counts.{Counts}
use Rattle.class_data.specs.Data.{fields_judge, methods_judge, ClassData}

pub record CountsRule (s : List ℕ) (p : ℕ) (c : Counts) (q : ℕ) : Type 0 where
  pub after_first : ℕ
  pub after_second : ℕ
  pub after_third : ℕ
  pub statics : Uleb s p (record { item = c.statics; next = after_first })
  pub instances : Uleb s after_first (record { item = c.instances; next = after_second })
  pub directs : Uleb s after_second (record { item = c.directs; next = after_third })
  pub virtuals : Uleb s after_third (record { item = c.virtuals; next = q })

pub record DataRule (s : List ℕ) (frame : Frame) (item : ℕ) (d : ClassData) : Type 0 where
  pub counts : Counts
  pub after_counts : ℕ
  pub after_statics : ℕ
  pub after_directs : ℕ
  pub counted : CountsRule s item counts after_counts
  pub statics : MembersRule s (fields_judge frame) after_counts counts.statics d.statics after_statics
  pub instances : MembersRule s (fields_judge frame) after_statics counts.instances d.instances d.methods
  pub directs : MembersRule s (methods_judge frame) d.methods counts.directs d.directs after_directs
  pub virtuals : MembersRule s (methods_judge frame) after_directs counts.virtuals d.virtuals d.end
