use Rattle.lihvemur_c.proofs.Reported.{classify_class, classify-refused}
use Rattle.lihvemur_c.proofs.classes.lihvemur_classify.Goals as goal

pub returns-in-Some : goal.returns-in-Some
returns-in-Some c = classify_class _ _ _ _ _ _ _ _ c.told-number.ensures _ _ _ _ c.classify-answer.ensures _ _ _ c.in-Some.is c.number.ensures c.class_values.ensures

pub returns-in_default : goal.returns-in_default
returns-in_default c = classify-refused _ _ _ _ _ _ _ _ c.told-number.ensures _ _ _ _ c.classify-answer.ensures c.in_default.is
