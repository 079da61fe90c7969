use Rattle.filter_bank.proofs.state.StateCausal.step.Goals as goal

pub returns-in-Filter-clause-stands : goal.returns-in-Filter-clause-stands
returns-in-Filter-clause-stands c = rw c.in-Filter.is c.step.ensures.stands

pub returns-in-Filter-clause-value : goal.returns-in-Filter-clause-value
returns-in-Filter-clause-value c = rw c.in-Filter.is c.step.ensures.value

pub returns-in-Convolution-clause-value : goal.returns-in-Convolution-clause-value
returns-in-Convolution-clause-value c = rw c.in-Convolution.is c.step-in-Convolution.ensures.value

pub returns-in-Processor-clause-value : goal.returns-in-Processor-clause-value
returns-in-Processor-clause-value c = rw c.in-Processor.is c.step-in-Processor.ensures.value
